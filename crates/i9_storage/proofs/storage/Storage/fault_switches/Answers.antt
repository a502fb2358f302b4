use Rattle.std.proofs.Common.{arith}
use Rattle.i9_storage.proofs.StoragePlans.{fault_switch_laid}
use Rattle.i9_storage.proofs.storage.Storage.fault_switches.Goals as goal

pub returns : goal.returns
returns c = grind (arith, fault_switch_laid)
