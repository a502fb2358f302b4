use Rattle.std.proofs.Common.{arith}
use Rattle.i9_exec.proofs.Products.{checked_is, reduced-product}
use Rattle.i9_exec.proofs.signed.product.Goals as goal

pub returns-else-product_overflows : goal.returns-else-product_overflows
returns-else-product_overflows c ac = grind (arith, checked_is, reduced-product)
