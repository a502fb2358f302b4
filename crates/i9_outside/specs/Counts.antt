-- Counts of 64 bits, which stop at the end of their type.
use Rattle.std.specs.Prelude.{ℕ, ◌+◌, ◌-◌, ◌^◌, ◌≤◌, min}

-- one more, but never more than a `u64` holds
abbrev pub one_more : ℕ → ℕ
one_more n = min (n + 1) (2 ^ 64 - 1)

-- A count has risen, or stands at the end of its type, where it can't rise: after 2 ^ 64 - 1 faults.
abbrev pub Rose : ℕ → ℕ → Type 0
Rose before now = one_more before ≤ now
