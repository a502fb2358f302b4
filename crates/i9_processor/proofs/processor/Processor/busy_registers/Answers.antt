use Rattle.std.proofs.Common.{refl, arith}
use Rattle.i9_model.specs.Needs.{set_below}
use Rattle.i9_processor.proofs.BusySet.{set_with, set_without, bit_is, bit_fits}
use Rattle.i9_processor.proofs.processor.Processor.busy_registers.Goals as goal

pub loop-r-init : goal.loop-r-init
unfolding set_below
loop-r-init c = refl

pub overflow_add-busy : goal.overflow_add-busy
overflow_add-busy c = grind (arith, bit_fits, bit_is)

pub loop-r-preserved : goal.loop-r-preserved
loop-r-preserved c = grind (arith, bit_is, set_with, set_without)
