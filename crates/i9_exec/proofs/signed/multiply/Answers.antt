use Rattle.std.proofs.Common.{arith}
use Rattle.i9_exec.proofs.Products.{checked_is, reduced-product}
use Rattle.i9_exec.proofs.signed.multiply.Goals as goal

pub returns : goal.returns
returns c = grind (arith, checked_is, reduced-product)
