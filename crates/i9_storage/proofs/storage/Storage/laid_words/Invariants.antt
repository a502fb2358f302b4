use Rattle.std.proofs.Common.{◌≡◌, ℕ, ◌+◌, ◌*◌, ◌<◌, length, get_or}
use Rattle.i9_model.specs.declared.layout.TheConstants.{LOCALS}
use Rattle.i9_model.specs.Writes.{wrapped}
use Rattle.i9_model.specs.Memory.{word_in}
use Rattle.i9_storage.specs.Storage.{memory_in}
use Rattle.i9_storage.proofs.storage.Storage.laid_words.Given as goal

abbrev pub invariant-loop-k : goal.invariant-loop-k
invariant-loop-k l = record {
  length_of : length l.words ≡ LOCALS;
  words_of : (k : ℕ) → k < l.k → get_or l.words k 0 ≡ word_in (memory_in l.self) (wrapped (l.a + 4 * k));
}
