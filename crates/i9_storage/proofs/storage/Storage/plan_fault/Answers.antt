use Rattle.std.proofs.Common.{arith}
use Rattle.i9_storage.proofs.StoragePlans.{fault_laid}
use Rattle.i9_storage.proofs.storage.Storage.plan_fault.Goals as goal

pub returns-clause-entry : goal.returns-clause-entry
returns-clause-entry c = grind (arith, fault_laid)
