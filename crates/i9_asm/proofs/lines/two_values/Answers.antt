use Rattle.std.proofs.Common.{arith}
use Rattle.i9_asm.proofs.Several.{more_than_two}
use Rattle.i9_asm.proofs.lines.two_values.Goals as goal

pub returns-then-is_some : goal.returns-then-is_some
returns-then-is_some c = grind (arith, more_than_two)
