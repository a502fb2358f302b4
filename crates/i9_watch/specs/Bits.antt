-- Bits of a number as marks in a row.
use Rattle.std.specs.Prelude.{◌≡◌, ℕ, ◌+◌, ◌*◌, Bool, false, nat_lt, ◌&&◌, ◌||◌, List, [], ◌∷◌, map}
use Rattle.std.specs.List.{range_with_len}
use Rattle.i9_isa.specs.Words.{bit}
use Rattle.i9_model.specs.declared.layout.TheConstants.{LOCALS}
use Rattle.i9_model.specs.Writes.{wrapped}
use Rattle.i9_model.specs.Frames.{in_bytes, word_mark}

-- so many low bits, the lowest first
abbrev pub bits_of : ℕ → ℕ → List Bool
bits_of w n = map (bit w) (range_with_len 0 n)

-- one of the places of those runs of so many places, one behind the other, whose mark is set
unfoldable pub in_runs : ℕ → ℕ → List Bool → ℕ → Bool
in_runs a width [] x = false
in_runs a width (b ∷ bs) x = (b && in_bytes a width x) || in_runs (a + width) width bs x

-- those words of a frame at an address whose bytes have a mark
abbrev pub AreWordMarks : ℕ → (ℕ → Bool) → ℕ → Type 0
AreWordMarks w marked a = (k : ℕ) → bit w k ≡ (nat_lt k LOCALS && word_mark marked (wrapped (a + 4 * k)))
