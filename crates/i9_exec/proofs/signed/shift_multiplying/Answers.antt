use Rattle.std.proofs.Common.{arith, pos}
use Rattle.i9_exec.proofs.Products.{checked_is, reduced-shift}
use Rattle.i9_exec.proofs.signed.shift_multiplying.Goals as goal

pub returns : goal.returns
returns c = grind (arith, checked_is, pos, reduced-shift)
