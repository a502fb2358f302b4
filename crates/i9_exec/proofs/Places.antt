-- Masks, the highest 1 of a word, and rotations.
use Rattle.std.proofs.Common.{◌≡◌, ℕ, suc, zero, ◌+◌, ◌-◌, ◌*◌, ◌/◌, ◌%◌, ◌^◌, ◌<◌, ◌≤◌, arith, refl, sym, ap, ◌∙◌, add-one, add-zero, add_comm, bit_and, bit_or, Some, None, inl, inr, true, false}
use Rattle.std.proofs.lemmas.Nat.{and_mask, one_shl, or_shifted, pow_pos, leading_top, le-div, div_below, shr_below, pow-add, mod-pow-add, shl-shr}
use Rattle.std.proofs.Math.Nat.{pow-suc, pow-le-pow_right, mul-div-mul_right, mul-mod_left}
use Rattle.std.proofs.lemmas.Bool.{cases_eq}
use Rattle.std.specs.Int.Bits.{or_self}
use Rattle.std.specs.Int.Count.{count_leading_zeros}
use Rattle.i9_isa.specs.Words.{bit}
use Rattle.i9_model.specs.Numbers.{highest_one}
use Rattle.i9_model.specs.Results.{turned_left}

-- the mask of the low k bits, as code writes it
pub low_mask : (n k : ℕ) → k < 32 → bit_and n (1 * 2 ^ k % 4294967296 - 1) ≡ n % 2 ^ k
low_mask n k h = rw (one_shl k 32 h) (and_mask n k)

-- ---- the highest 1

pub highest_one-zero : (k : ℕ) → highest_one k 0 ≡ None
unfolding highest_one
highest_one-zero zero = refl
highest_one-zero (suc k) = let low : 0 / 2 ^ k ≡ 0 = omega arith in rw low (highest_one-zero k)

bit-top : (a k : ℕ) → 2 ^ k ≤ a → a < 2 ^ (k + 1) → bit a k ≡ true
bit-top a k h l =
    let least = le-div 1 a (2 ^ k) (pow_pos k) (omega arith) in
    let most = div_below a (2 ^ k) 2 (pow_pos k) (let e : 2 ^ (k + 1) ≡ 2 ^ k * 2 = rw add-one (pow-suc 2 k) in omega arith) in
    let one : a / 2 ^ k ≡ 1 = omega arith in rw one refl

bit-above : (a k : ℕ) → a < 2 ^ k → bit a k ≡ false
bit-above a k h = let none : a / 2 ^ k ≡ 0 = omega (arith, div_below a (2 ^ k) 1 (pow_pos k) (omega arith)) in rw none refl

pub highest_one-some : (k n a : ℕ) → n < k → 2 ^ n ≤ a → a < 2 ^ (n + 1) → highest_one k a ≡ Some n
unfolding highest_one
highest_one-some zero n a l h g = absurd (omega arith)
highest_one-some (suc k) n a l h g = elim (cases_eq n k) [
  | inl e ↦ rw (← e) (rw (bit-top a n h g) refl)
  | inr ne ↦
      let below : n < k = omega arith in
      let small = pow-le-pow_right {n = 2} (omega arith) {i = n + 1} {j = k} (omega arith) in
      rw (bit-above a k (omega (arith, small))) (highest_one-some k n a below h g)
]

pub highest_one_is : (a : ℕ) → 0 < a → a < 2 ^ 32 → highest_one 32 a ≡ Some (31 - count_leading_zeros 32 a)
highest_one_is a p h =
    let top = leading_top 32 a p h in
    let place : 31 - count_leading_zeros 32 a ≡ top.0 = omega (arith, top.1) in
    rw place (highest_one-some 32 top.0 a (omega (arith, top.1)) top.2 (rw add-one top.3))

-- ---- rotations

-- by p places, of which q are left to 32
turned : (b p q : ℕ) → b < 2 ^ 32 → p + q ≡ 32 → q < 32 → bit_or (b * 2 ^ p % 2 ^ 32) (b / 2 ^ (q % 32)) ≡ turned_left b p
turned b p q h e l =
    let small : q % 32 ≡ q = omega arith in
    let whole : 2 ^ 32 ≡ 2 ^ q * 2 ^ p = ap (λ n. 2 ^ n) (sym e) ∙ (rw (add_comm p q) (pow-add 2 q p)) in
    let high : b * 2 ^ p / 2 ^ 32 ≡ b / 2 ^ q = rw whole (mul-div-mul_right b (2 ^ q) (pow_pos p)) in
    let low : b * 2 ^ p % 2 ^ 32 ≡ b % 2 ^ q * 2 ^ p =
    ap (λ n. b * 2 ^ p % 2 ^ n) (sym e ∙ add_comm p q) ∙ mod-pow-add (b * 2 ^ p) q p ∙ rw (shl-shr b p, mul-mod_left b (2 ^ p), add-zero) refl in
    rw (small, high, low) (or_shifted (b % 2 ^ q) p (b / 2 ^ q) (shr_below b p q (rw e h)))

pub turned_left_is : (b p : ℕ) → b < 2 ^ 32 → p < 32 → bit_or (b * 2 ^ p % 2 ^ 32) (b / 2 ^ ((32 - p) % 32)) ≡ turned_left b p
turned_left_is b p h l = elim (cases_eq p 0) [
  | inl e ↦ rw e (
      let whole : b * 1 % 4294967296 ≡ b = omega arith in
      let none : b * 1 / 4294967296 ≡ 0 = omega arith in
      let all : b / 1 ≡ b = omega arith in
      rw (whole, none, all, or_self, add-zero) refl)
  | inr ne ↦ turned b p (32 - p) h (omega arith) (omega arith)
]
