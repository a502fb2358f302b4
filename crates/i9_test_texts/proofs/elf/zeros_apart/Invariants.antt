use Rattle.std.proofs.Common.{◌≡◌, length}
use Rattle.i9_model.specs.Image.{pairs_of}
use Rattle.i9_test_texts.proofs.elf.zeros_apart.Given as goal

abbrev pub invariant-loop-index : goal.invariant-loop-index
invariant-loop-index l = length (pairs_of l.image) ≡ l.index
