use Rattle.std.proofs.Common.{arith}
use Rattle.i9_storage.proofs.StoragePlans.{unit_laid}
use Rattle.i9_storage.proofs.storage.Storage.plan_unit.Goals as goal

pub returns : goal.returns
returns c = grind (arith, unit_laid)
