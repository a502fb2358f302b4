use Rattle.std.proofs.Common.{◌≡◌, ℕ, ◌+◌, ◌*◌, ◌<◌, length, get_or}
use Rattle.i9_model.specs.Writes.{wrapped}
use Rattle.i9_model.specs.Memory.{word_in}
use Rattle.i9_storage.specs.Storage.{legible_in}
use Rattle.i9_storage.proofs.storage.Storage.partly_words.Given as goal

abbrev pub invariant-loop-k : goal.invariant-loop-k
invariant-loop-k g l = record {
  length_of : length l.words ≡ g.row.N;
  words_of : (k : ℕ) → k < l.k → get_or l.words k 0 ≡ word_in (legible_in l.self) (wrapped (l.a + 4 * k));
}
