-- A set of registers that is filled from the lowest one up.
use Rattle.std.proofs.Common.{◌≡◌, ℕ, ◌+◌, ◌*◌, ◌%◌, ◌^◌, ◌<◌, Bool, true, false, cond, arith, ap, ◌∙◌, add-one}
use Rattle.i9_model.proofs.SetLaws.{below_pow}
use Rattle.std.proofs.Math.Nat.{mod-eq_of_lt}
use Rattle.std.proofs.Math.Pow.{pow-lt, pow_mono}
use Rattle.i9_model.specs.Needs.{set_below}

one_more : (n : ℕ) (p : ℕ → Bool) → set_below (n + 1) p ≡ set_below n p + cond (p n) (2 ^ n) 0
unfolding set_below
one_more n p = ap (λ (k : ℕ). set_below k p) (add-one n)

-- the next one is in it, or is not
pub set_with : (n : ℕ) (p : ℕ → Bool) → p n ≡ true → set_below (n + 1) p ≡ set_below n p + 2 ^ n
set_with n p is = one_more n p ∙ ap (λ (b : Bool). set_below n p + cond b (2 ^ n) 0) is

pub set_without : (n : ℕ) (p : ℕ → Bool) → p n ≡ false → set_below (n + 1) p ≡ set_below n p
unfolding set_below
set_without n p is = grind arith

-- a further bit, which fits
pub bit_is : (n : ℕ) → n < 32 → 1 * 2 ^ n % 4294967296 ≡ 2 ^ n
bit_is n low = grind (arith, pow-lt, mod-eq_of_lt)

pub bit_fits : (n : ℕ) (p : ℕ → Bool) → n < 32 → set_below n p + 2 ^ n < 2 ^ 32
bit_fits n p low = grind (arith, below_pow, pow_mono)
