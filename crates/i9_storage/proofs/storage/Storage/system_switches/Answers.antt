use Rattle.std.proofs.Common.{arith}
use Rattle.i9_storage.proofs.StoragePlans.{system_switch_laid}
use Rattle.i9_storage.proofs.storage.Storage.system_switches.Goals as goal

pub returns : goal.returns
returns c = grind (arith, system_switch_laid)
