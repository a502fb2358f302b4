use Rattle.std.proofs.Common.{arith}
use Rattle.i9_exec.proofs.Places.{turned_left_is}
use Rattle.i9_exec.proofs.bits.turn_left.Goals as goal

pub returns : goal.returns
returns c = grind (arith, turned_left_is)
