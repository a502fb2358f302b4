use Rattle.std.proofs.Common.{◌≡◌, length}
use Rattle.i9_model.specs.Image.{pairs_of}
use Rattle.i9_test_texts.proofs.elf.image_of.Given as goal

abbrev pub invariant-loop-pair : goal.invariant-loop-pair
invariant-loop-pair l = length (pairs_of l.image) ≡ l.pair-index
