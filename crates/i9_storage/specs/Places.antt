-- Places of words, by their address.
use Rattle.std.specs.Prelude.{◌≡◌, ℕ, ◌+◌, ◌/◌, ◌%◌, ◌^◌, ◌<◌, ◌≤◌, false, List, slice_index}
use Rattle.i9_model.specs.Writes.{wrapped}
use Rattle.i9_model.specs.Frames.{in_bytes}

-- the word of an address is kept: the address stands at its place
abbrev pub IsNamed : List ℕ → ℕ → Type 0
IsNamed addresses a = (a < 2 ^ 32) × (slice_index addresses (a / 4 % 256) ≡ a)

-- the addresses are multiples of 4, and lie from one on and with their words below another
abbrev pub AreWithin : List ℕ → ℕ → ℕ → Type 0
AreWithin addresses low end = (a : ℕ) → IsNamed addresses a → (a % 4 ≡ 0) × (low ≤ a) × (a + 4 ≤ end)

-- no byte of the word at an address is one of n from another one up
abbrev pub IsBeside : ℕ → ℕ → ℕ → Type 0
IsBeside a n x = (k : ℕ) → k < 4 → in_bytes a n (wrapped (x + k)) ≡ false
