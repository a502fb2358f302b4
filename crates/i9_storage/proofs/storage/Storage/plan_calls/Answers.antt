use Rattle.std.proofs.Common.{arith}
use Rattle.i9_storage.proofs.StoragePlans.{calls_laid}
use Rattle.i9_storage.proofs.storage.Storage.plan_calls.Goals as goal

pub returns-clause-sys : goal.returns-clause-sys
returns-clause-sys c = grind (arith, calls_laid)
