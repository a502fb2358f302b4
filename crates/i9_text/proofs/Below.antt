-- A test that passes for each number below a limit, by computing.
use Rattle.std.proofs.Common.{◌≡◌, ℕ, zero, suc, ◌<◌, Bool, true, ◌&&◌, arith}
use Rattle.std.proofs.lemmas.Bool.{cases_eq}

-- a test of each number below n
abbrev pub test_below : (ℕ → Bool) → ℕ → Bool
test_below p zero = true
test_below p (suc n) = p n && test_below p n

pub passes_below : (p : ℕ → Bool) (n k : ℕ) → test_below p n ≡ true → k < n → p k ≡ true
passes_below p zero k h lt = absurd (omega arith)
passes_below p (suc n) k h lt = grind (arith, passes_below p n k, cases_eq k n)
