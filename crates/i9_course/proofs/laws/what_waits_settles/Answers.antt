use Rattle.std.proofs.Common.{arith}
use Rattle.i9_course.proofs.Steps.{lands_registers, lands_memory, lands_order}
use Rattle.i9_course.proofs.laws.what_waits_settles.Goals as goal

pub returns : goal.returns
returns c = grind (arith, lands_registers, lands_memory, lands_order)
