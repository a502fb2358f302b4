-- Bits of 16-bit sets.
use Rattle.std.proofs.Common.{◌≡◌, ◌≢◌, ℕ, ◌+◌, ◌*◌, ◌/◌, ◌%◌, ◌^◌, ◌<◌, Bool, true, false, nat_lt, refl, sym, ap, ◌∙◌, arith}
use Rattle.std.specs.Prelude.{◌==◌, ◌&&◌, ◌||◌, bit_or}
use Rattle.std.specs.Int.{w16, bit_at, from_bool}
use Rattle.std.proofs.lemmas.Bool.{eqb-true, lt-ltb}
use Rattle.std.proofs.lemmas.Bool.Decides.{nat_tests}
use Rattle.std.proofs.lemmas.Nat.Bits.{bit_at_set_same, bit_at_set_other, same_from_bits_below}
use Rattle.i9_isa.specs.Words.{bit}
use Rattle.i9_model.specs.Needs.{set_below}
use Rattle.i9_model.proofs.SetLaws.{below_pow, set_bits}

-- no bit of 0 is set
zero_bit : (j : ℕ) → 0 / 2 ^ j % 2 ≡ 0
zero_bit j = let none : 0 / 2 ^ j ≡ 0 = grind arith in ap (λ (n : ℕ). n % 2) none

pub bit_none : (j : ℕ) → bit 0 j ≡ false
bit_none j = ap (λ (n : ℕ). n == 1) (zero_bit j)

pub no_bits : (j : ℕ) (b : Bool) → bit 0 j ≡ (nat_lt j 0 && b)
no_bits j b = grind (arith, nat_tests, bit_none)

-- one bit more
pub bit_set : (w k j : ℕ) → k < 16 → bit (bit_or w (1 * 2 ^ k % 2 ^ 16)) j ≡ ((true && (j == k)) || bit w j)
bit_set w k j h = by_place (j == k) refl
  where
    by_place : (b : Bool) → (j == k) ≡ b → bit (bit_or w (1 * 2 ^ k % 2 ^ 16)) j ≡ (b || bit w j)
    by_place true t = ap (λ (n : ℕ). bit (bit_or w (1 * 2 ^ k % 2 ^ 16)) n) (eqb-true j k t) ∙ ap (λ (n : ℕ). n == 1) (bit_at_set_same w16 w k h)
    by_place false t =
        let other : j ≢ k = λ e. grind (arith, nat_tests, t, e) in
        ap (λ (n : ℕ). n == 1) (bit_at_set_other w16 w k h j other)

lt_more : (j k : ℕ) → nat_lt j (k + 1) ≡ (nat_lt j k || j == k)
lt_more j k = grind (arith, nat_tests)

not_below : (j k : ℕ) → (j == k) ≡ true → nat_lt j k ≡ false
not_below j k t = grind (arith, nat_tests)

-- the bits of those below a number, and of the number
pub more_bits : (k : ℕ) (p : ℕ → Bool) (w v : ℕ) (t : Bool) → t ≡ p k → ((j : ℕ) → bit w j ≡ (nat_lt j k && p j)) → ((j : ℕ) → bit v j ≡ ((t && (j == k)) || bit w j)) → (j : ℕ) → bit v j ≡ (nat_lt j (k + 1) && p j)
more_bits k p w v t e before after j =
    after j ∙ rw (before j, lt_more) (placed t (p j) (j == k) (nat_lt j k) (λ h. e ∙ ap p (sym (eqb-true j k h))) (not_below j k))
  where
    placed : (t b here below : Bool) → (here ≡ true → t ≡ b) → (here ≡ true → below ≡ false) → ((t && here) || (below && b)) ≡ ((below || here) && b)
    placed t b here below same none = grind arith

-- where none of those below a number passes
pub none_below : (k n : ℕ) (p : ℕ → Bool) → ((j : ℕ) → j < n → p j ≡ false) → bit 0 k ≡ (nat_lt k n && p k)
none_below k n p none = grind (arith, nat_tests, bit_none)

-- ---- as a number

one_of : (n : ℕ) → n < 2 → n ≡ from_bool (n == 1)
one_of n h = grind (arith, nat_tests)

-- a number that has the bits of a set is its number
pub set-from_bits : (n w : ℕ) (p : ℕ → Bool) → w < 2 ^ n → ((k : ℕ) → bit w k ≡ (nat_lt k n && p k)) → w ≡ set_below n p
set-from_bits n w p small bits = same_from_bits_below n w (set_below n p) small (below_pow n p) (λ k lt.
    one_of (bit_at w k) (omega arith) ∙ ap from_bool (bits k ∙ ap (λ (b : Bool). b && p k) (lt-ltb k n lt)) ∙ sym (set_bits n k p lt))
