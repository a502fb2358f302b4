use Rattle.std.proofs.Common.{ℕ, ◌+◌, ◌*◌, ◌<◌}
use Rattle.i9_model.specs.Writes.{wrapped}
use Rattle.i9_storage.specs.Places.{IsNamed}
use Rattle.i9_storage.specs.Words.{KeepsNoOther}
use Rattle.i9_storage.proofs.words.Words.forget_words.Given as goal

abbrev pub invariant-loop-k : goal.invariant-loop-k
invariant-loop-k l = record {
  others : KeepsNoOther l.fn.self l.self;
  gone : (j : ℕ) → j < l.k → IsNamed l.self.places.value.addresses (wrapped (l.first + 4 * j)) → ⊥;
}
