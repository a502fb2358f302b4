use Rattle.std.proofs.Common.{arith}
use Rattle.i9_storage.proofs.StoragePlans.{request_laid}
use Rattle.i9_storage.proofs.storage.Storage.plan_request.Goals as goal

pub returns : goal.returns
returns c = grind (arith, request_laid)
