-- Pairs of address and byte, by their addresses.
use Rattle.std.specs.Prelude.{ℕ, ◌<◌, ◌==◌, Bool, false, List, [], ◌∷◌}
use Rattle.std.specs.List.Sorted.{IsNonDecreasingBy}
use Rattle.i9_model.specs.Writes.{address_count}

-- an address and a byte
pub record IsPlaced (p : ℕ × ℕ) : Type 0 where
  pub address : p.0 < address_count
  pub byte : p.1 < 256

-- the addresses don't fall
abbrev pub AreInOrder : List (ℕ × ℕ) → Type 0
AreInOrder pairs = IsNonDecreasingBy (λ (p : ℕ × ℕ). p.0) pairs

-- whether the first pair has this address
abbrev pub begins_at : List (ℕ × ℕ) → ℕ → Bool
begins_at [] a = false
begins_at (p ∷ pairs) a = p.0 == a
