-- The place of a register's name, of which its length and its first letter leave one.
use Rattle.std.proofs.Common.{◌≡◌, ℕ, ◌<◌, true, false, List, [], Option, Some, None, refl, ap, ◌∙◌, arith}
use Rattle.std.specs.List.{position_or_len}
use Rattle.std.specs.Str.{bytes_eq}
use Rattle.std.proofs.lemmas.Bool.{cases_Bool}
use Rattle.std.proofs.lemmas.List.Sums.{position_or_len_is}
use Rattle.std.proofs.lemmas.Slice.Eq.{bytes_eq-Decides}
use Rattle.i9_text.proofs.Below.{test_below, passes_below}
use Rattle.i9_statement.specs.Registers.{register_names, register_text, register_place, likely_place}
use Rattle.i9_statement.proofs.ReadValues.{found_at, found_true, register_place-text}

place_past : (s : List ℕ) → position_or_len (bytes_eq s) register_names ≡ 39 → register_place s ≡ None
unfolding register_place
place_past s e = rw e refl

place_missing : (s : List ℕ) → ((j : ℕ) → j < 39 → bytes_eq s (register_text j) ≡ false) → register_place s ≡ None
unfolding register_text
place_missing s before = place_past s (position_or_len_is (bytes_eq s) register_names 39 [] (omega arith) before (λ h. absurd (omega arith)))

-- ---- the likely place

all_likely : test_below (λ k. found_at (likely_place (register_text k)) k) 39 ≡ true
unfolding likely_place register_text
all_likely = refl

likely_place-text : (k : ℕ) → k < 39 → likely_place (register_text k) ≡ Some k
likely_place-text k h = found_true _ k (passes_below (λ j. found_at (likely_place (register_text j)) j) 39 k all_likely h)

-- a text that is this name
pub place_found : (s : List ℕ) (k : ℕ) → k < 39 → bytes_eq s (register_text k) ≡ true → register_place s ≡ Some k
place_found s k h here = ap register_place ((bytes_eq-Decides s (register_text k)).0 here) ∙ register_place-text k h

other_name : (s : List ℕ) (o : Option ℕ) (j : ℕ) → likely_place s ≡ o → ((k : ℕ) → o ≡ Some k → bytes_eq s (register_text k) ≡ false) → j < 39 → bytes_eq s (register_text j) ≡ false
other_name s o j likely not h = grind (arith, cases_Bool, bytes_eq-Decides, likely_place-text)

-- a text that is not the likely name
pub place_none : (s : List ℕ) (o : Option ℕ) → likely_place s ≡ o → ((k : ℕ) → o ≡ Some k → bytes_eq s (register_text k) ≡ false) → register_place s ≡ None
place_none s o likely not = place_missing s (λ j h. other_name s o j likely not h)
