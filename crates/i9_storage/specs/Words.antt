-- Words that are kept.
use Rattle.std.specs.Prelude.{◌≡◌, ℕ, ◌/◌, ◌%◌, slice_index}
use Rattle.i9_storage.specs.declared.words.Words.{Words}
use Rattle.i9_storage.specs.Places.{IsNamed}

-- this word is kept of an address
abbrev pub Keeps : Words → ℕ → ℕ → Type 0
Keeps ws a w = IsNamed ws.places.value.addresses a × (slice_index ws.places.value.words (a / 4 % 256) ≡ w)

-- no word is kept that was not
abbrev pub KeepsNoOther : Words → Words → Type 0
KeepsNoOther old new = (a w : ℕ) → Keeps new a w → Keeps old a w

-- none is kept
abbrev pub KeepsNone : Words → Type 0
KeepsNone ws = (a w : ℕ) → Keeps ws a w → ⊥
