use Rattle.std.proofs.Common.{refl}
use Rattle.i9_model.specs.Image.{pairs_of}
use Rattle.i9_test_texts.proofs.elf.zeros_apart.Goals as goal

pub loop-index-init : goal.loop-index-init
unfolding pairs_of
loop-index-init c = rw c.new-image.ensures refl
