use Rattle.std.proofs.Common.{refl}
use Rattle.i9_model.specs.Image.{pairs_of}
use Rattle.i9_test_texts.proofs.elf.image_of.Goals as goal

pub loop-pair-init : goal.loop-pair-init
unfolding pairs_of
loop-pair-init c = rw c.new-image.ensures refl
