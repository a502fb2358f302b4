use Rattle.std.proofs.Common.{arith}
use Rattle.i9_storage.proofs.StoragePlans.{ret_laid}
use Rattle.i9_storage.proofs.storage.Storage.plan_ret.Goals as goal

pub returns-clause-pop : goal.returns-clause-pop
returns-clause-pop c = grind (arith, ret_laid)
