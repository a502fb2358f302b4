-- A list that is cut at each element that passes a test, by the place of the first.
use Rattle.std.proofs.Common.{◌≡◌, ℕ, ◌+◌, ◌<◌, ◌≤◌, Bool, List, [], ◌∷◌, length, take, drop, Some, None, arith}
use Rattle.std.specs.List.{slice_split, position, position_or_len}
use Rattle.std.proofs.lemmas.List.Sums.{fails_before_first}
use Rattle.std.proofs.lemmas.List.Splits.{slice_split_first, slice_split_none}

-- the first place that passes, where there is one
pub position_or_len-found : {A : Type 0} (p : A → Bool) (xs : List A) (i : ℕ) → Some i ≡ position p xs → (position_or_len p xs ≡ i) × (i < length xs)
position_or_len-found p xs i e = grind arith

pub position_or_len-missing : {A : Type 0} (p : A → Bool) (xs : List A) → None ≡ position p xs → length xs ≤ position_or_len p xs
position_or_len-missing p xs e = grind arith

pub slice_split-found : {A : Type 0} (p : A → Bool) (xs : List A) (i : ℕ) (d : A) → Some i ≡ position p xs → slice_split p xs ≡ take i xs ∷ slice_split p (drop (i + 1) xs)
slice_split-found p xs i d e = grind (arith, position_or_len-found, slice_split_first)

pub slice_split-missing : {A : Type 0} (p : A → Bool) (xs : List A) → None ≡ position p xs → slice_split p xs ≡ xs ∷ []
slice_split-missing p xs e = grind (arith, position_or_len-missing, slice_split_none, fails_before_first)
