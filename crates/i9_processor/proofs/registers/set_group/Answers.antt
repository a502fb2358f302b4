use Rattle.std.proofs.Common.{refl}
use Rattle.i9_model.specs.Writes.{written}
use Rattle.i9_processor.proofs.registers.set_group.Goals as goal

pub loop-k-init : goal.loop-k-init
unfolding written
loop-k-init c = record { registers = refl; keeps = record { code = refl; still = λ h. h } }
