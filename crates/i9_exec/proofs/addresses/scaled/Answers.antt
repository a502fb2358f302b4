use Rattle.std.proofs.Common.{arith, sym}
use Rattle.i9_exec.proofs.Products.{mod-far}
use Rattle.i9_exec.proofs.addresses.scaled.Goals as goal

pub returns-else-scale-lt32 : goal.returns-else-scale-lt32
returns-else-scale-lt32 c = sym (mod-far c.args.index c.args.scale (omega arith))
