-- Sets of resources as numbers.
use Rattle.std.proofs.Common.{◌≡◌, ℕ, zero, suc, ◌+◌, ◌-◌, ◌*◌, ◌^◌, ◌<◌, Bool, true, false, cond, sym, ap, ◌∙◌, inl, inr, arith, lit<}
use Rattle.std.specs.Int.{bit_at, from_bool, IsBitSet}
use Rattle.std.proofs.lemmas.Bool.{cases_lt}
use Rattle.std.proofs.lemmas.Nat.Bits.{bit_at_cat_low, bit_at_cat_high, bit_at_above, bit_at-lt, and_pow}
use Rattle.i9_model.specs.Needs.{set_below}
use Rattle.std.proofs.Math.Nat.{one-le-pow}

pow_cases : (b : Bool) (x n : ℕ) → x < 2 ^ n → x + cond b (2 ^ n) 0 < 2 ^ suc n
pow_cases b x n h = grind arith

pub below_pow : (n : ℕ) (p : ℕ → Bool) → set_below n p < 2 ^ n
unfolding set_below
below_pow zero p = lit< tt
below_pow (suc n) p = pow_cases (p n) (set_below n p) n (below_pow n p)

low_cases : (b : Bool) (x n k : ℕ) → k < n → bit_at (x + cond b (2 ^ n) 0) k ≡ bit_at x k
low_cases true x n k low =
    let swap : x + 2 ^ n ≡ 1 * 2 ^ n + x = omega arith in
    ap (λ (y : ℕ). bit_at y k) swap ∙ bit_at_cat_low 1 n x k low
low_cases false x n k low = let swap : x + 0 ≡ x = omega arith in ap (λ (y : ℕ). bit_at y k) swap

top_cases : (b : Bool) (x n : ℕ) → x < 2 ^ n → bit_at (x + cond b (2 ^ n) 0) n ≡ from_bool b
top_cases true x n small =
    let swap : x + 2 ^ n ≡ 1 * 2 ^ n + x = omega arith in
    let none : n - n ≡ 0 = omega arith in
    ap (λ (y : ℕ). bit_at y n) swap ∙ bit_at_cat_high 1 n x n small (omega arith) ∙ ap (bit_at 1) none
top_cases false x n small = grind (arith, bit_at_above)

pub set_bits : (n k : ℕ) (p : ℕ → Bool) → k < n → bit_at (set_below n p) k ≡ from_bool (p k)
unfolding set_below
set_bits zero k p lt = absurd (omega (arith, lt))
set_bits (suc n) k p lt = elim (cases_lt k n) [
  | inl low ↦ low_cases (p n) (set_below n p) n k low ∙ set_bits n k p low
  | inr high ↦
      let here : k ≡ n = omega (arith, lt, high) in
      ap (bit_at (set_below n p + cond (p n) (2 ^ n) 0)) here ∙ top_cases (p n) (set_below n p) n (below_pow n p) ∙ ap (λ (j : ℕ). from_bool (p j)) (sym here)
]

-- ---- one bit

-- a bit that is set is 1
pub set-one : (n k : ℕ) → IsBitSet n k → bit_at n k ≡ 1
set-one n k h = grind (arith, cases_lt, bit_at-lt, and_pow)

pub one-set : (n k : ℕ) → bit_at n k ≡ 1 → IsBitSet n k
one-set n k h e = grind (arith, one-le-pow, and_pow)
