use Rattle.std.proofs.Common.{arith}
use Rattle.i9_storage.proofs.StoragePlans.{chosen_laid}
use Rattle.i9_storage.proofs.storage.Storage.choose_soft.Goals as goal

pub returns : goal.returns
returns c = grind (arith, chosen_laid)
