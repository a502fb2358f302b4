-- Signed results: what is left of them in 32 bits, and whether they are in range.
use Rattle.std.proofs.Common.{◌≡◌, ℕ, suc, ◌+◌, ◌-◌, ◌*◌, ◌/◌, ◌%◌, ◌^◌, ◌<◌, ◌≤◌, arith, refl, sym, ap, ◌∙◌, ℤ, pos, negsuc, ◌*ℤ◌, neg_ℤ, leb, ltb, eqb, not, Bool, inl, inr}
use Rattle.std.proofs.lemmas.Nat.{pow_pos, le-div, div_below, mul-le, pow-add}
use Rattle.std.proofs.Math.Nat.{pow-le-pow_right}
use Rattle.std.proofs.lemmas.Bool.{cases_eq, cases_lt}
use Rattle.std.proofs.lemmas.Bool.Decides.{nat_tests}
use Rattle.std.specs.Int.{w32, cast_unsigned, int_wrap}
use Rattle.std.proofs.lemmas.Int.{to_z_pos, of_z-to_z, wrapping_mul-bits, int_wrap-mul_left}
use Rattle.i9_model.specs.Operands.{reduced}
use Rattle.i9_model.specs.Numbers.{signed, fits}
use Rattle.i9_model.specs.Results.{word_or_overflow, checked, shifted_left}

-- ---- what is left in 32 bits

reduced-lt : (z : ℤ) → reduced z < 2 ^ 32
reduced-lt z = grind (arith, pos, negsuc)

cast_unsigned-int_wrap : (z : ℤ) → cast_unsigned w32 (int_wrap w32 z) ≡ reduced z
unfolding int_wrap
cast_unsigned-int_wrap z = of_z-to_z w32 (reduced z) (reduced-lt z)

-- a product of signed words has the low word of the product of the words
pub reduced-product : (a b : ℕ) → a < 2 ^ 32 → b < 2 ^ 32 → b * a % 2 ^ 32 ≡ reduced (signed b *ℤ signed a)
reduced-product a b h g =
    sym (of_z-to_z w32 (b * a % 2 ^ 32) (omega arith))
    ∙ ap (cast_unsigned w32) (wrapping_mul-bits w32 b a g h)
    ∙ cast_unsigned-int_wrap (signed b *ℤ signed a)

int_wrap-word : (b : ℕ) → b < 2 ^ 32 → int_wrap w32 (pos b) ≡ signed b
unfolding int_wrap
int_wrap-word b h = let small : b % 2 ^ 32 ≡ b = omega arith in ap signed small

pub reduced-times : (b k : ℕ) → b < 2 ^ 32 → b * k % 2 ^ 32 ≡ reduced (signed b *ℤ pos k)
reduced-times b k h =
    sym (cast_unsigned-int_wrap (pos b *ℤ pos k))
    ∙ ap (cast_unsigned w32) (sym (int_wrap-mul_left w32 (pos b) (pos k)) ∙ ap (λ z. int_wrap w32 (z *ℤ pos k)) (int_wrap-word b h))
    ∙ cast_unsigned-int_wrap (signed b *ℤ pos k)

-- from 32 places on nothing is left
pub mod-far : (b a : ℕ) → 32 ≤ a → b * 2 ^ a % 2 ^ 32 ≡ 0
mod-far b a h =
    let apart : 2 ^ a ≡ 2 ^ (a - 32) * 2 ^ 32 = ap (λ n. 2 ^ n) (let e : a ≡ (a - 32) + 32 = omega arith in e) ∙ pow-add 2 (a - 32) 32 in
    rw apart (omega arith)

-- a signed word times a power of two has the low word of the word shifted left
pub reduced-shift : (b a : ℕ) → b < 2 ^ 32 → shifted_left b a ≡ reduced (signed b *ℤ pos (2 ^ a))
reduced-shift b a h = grind (arith, cases_lt, nat_tests, reduced-times, mod-far)

-- the low word of a result, and whether it is out of range, are its answer
pub checked_is : (v : ℕ) (o : Bool) (z : ℤ) (ac : ℕ) → v ≡ reduced z → o ≡ not (fits z) → word_or_overflow v o ac ≡ checked z ac
checked_is v o z ac e f = rw (e, f) refl

pub not-fits-same : (x y : ℤ) (r : Bool) → r ≡ not (fits x) → x ≡ y → r ≡ not (fits y)
not-fits-same x y r h e = h ∙ ap (λ z. not (fits z)) e

-- ---- products by a power of two in the signed range

fits-neg : (n : ℕ) → fits (neg_ℤ (pos n)) ≡ leb n 2147483648
fits-neg n = grind arith

fits-positive : (b k : ℕ) → b < 2147483648 → fits (signed b *ℤ pos k) ≡ ltb (b * k) 2147483648
fits-positive b k h = rw (to_z_pos w32 b h) refl

signed-negative : (b : ℕ) → 2147483648 ≤ b → b < 4294967296 → signed b ≡ negsuc (4294967295 - b)
signed-negative b h l = grind (arith, nat_tests)

fits-negative : (b k : ℕ) → 2147483648 ≤ b → b < 4294967296 → fits (signed b *ℤ pos k) ≡ leb (suc (4294967295 - b) * k) 2147483648
fits-negative b k h l = rw (signed-negative b h l) (fits-neg _)

mul-lt : (a b k : ℕ) → 0 < k → a < b → a * k < b * k
mul-lt a b k hk h = grind (arith, mul-le)

-- b times k is below m times k exactly where b is below m
below_product : (b m k : ℕ) → 0 < m → 0 < k → eqb (b / m) 0 ≡ ltb (b * k) (m * k)
below_product b m k hm hk = elim (cases_lt b m) [
  | inl lt ↦
      let none : b / m ≡ 0 = omega (arith, div_below b m 1 hm (omega arith)) in
      let below = mul-lt b m k hk lt in
      grind (arith, nat_tests)
  | inr ge ↦
      let some : 1 ≤ b / m = le-div 1 b m hm (omega arith) in
      let above = mul-le m k b k ge (omega arith) in
      grind (arith, nat_tests)
]

-- the same of n + 1 and at most
up_to_product : (n m k : ℕ) → 0 < m → 0 < k → eqb (n / m) 0 ≡ leb (suc n * k) (m * k)
up_to_product n m k hm hk = elim (cases_lt n m) [
  | inl lt ↦
      let none : n / m ≡ 0 = omega (arith, div_below n m 1 hm (omega arith)) in
      let below = mul-le (suc n) k m k lt (omega arith) in
      grind (arith, nat_tests)
  | inr ge ↦
      let some : 1 ≤ n / m = le-div 1 n m hm (omega arith) in
      let above : m * k < suc n * k = mul-lt m (suc n) k hk (omega arith) in
      grind (arith, nat_tests)
]

limit_split : (a : ℕ) → a < 32 → 2147483648 ≡ 2 ^ (31 - a) * 2 ^ a
limit_split a h = ap (λ n. 2 ^ n) (let e : 31 ≡ (31 - a) + a = omega arith in e) ∙ pow-add 2 (31 - a) a

pub shift_positive : (b a : ℕ) → a < 32 → b < 2147483648 → not (eqb (b / 2 ^ (31 - a)) 0) ≡ not (fits (signed b *ℤ pos (2 ^ a)))
shift_positive b a h l = ap not (below_product b (2 ^ (31 - a)) (2 ^ a) (pow_pos (31 - a)) (pow_pos a) ∙ rw (← limit_split a h) (sym (fits-positive b (2 ^ a) l)))

pub shift_negative : (b a : ℕ) → a < 32 → 2147483648 ≤ b → b < 4294967296 → not (eqb ((4294967295 - b) / 2 ^ (31 - a)) 0) ≡ not (fits (signed b *ℤ pos (2 ^ a)))
shift_negative b a h g l = ap not (up_to_product (4294967295 - b) (2 ^ (31 - a)) (2 ^ a) (pow_pos (31 - a)) (pow_pos a) ∙ rw (← limit_split a h) (sym (fits-negative b (2 ^ a) g l)))

far_positive : (b a : ℕ) → 32 ≤ a → b < 2147483648 → not (eqb b 0) ≡ not (fits (signed b *ℤ pos (2 ^ a)))
far_positive b a h l = rw (fits-positive b (2 ^ a) l) (
    let large : 4294967296 ≤ 2 ^ a = pow-le-pow_right {n = 2} (omega arith) {i = 32} {j = a} h in
    elim (cases_eq b 0) [
      | inl e ↦ let none : b * 2 ^ a ≡ 0 = rw e (omega arith) in grind (arith, nat_tests)
      | inr ne ↦ let more = mul-le 1 4294967296 b (2 ^ a) (omega arith) large in grind (arith, nat_tests)
    ])

far_negative : (b a : ℕ) → 32 ≤ a → 2147483648 ≤ b → b < 4294967296 → not (eqb b 0) ≡ not (fits (signed b *ℤ pos (2 ^ a)))
far_negative b a h g l = rw (fits-negative b (2 ^ a) g l) (
    let large : 4294967296 ≤ 2 ^ a = pow-le-pow_right {n = 2} (omega arith) {i = 32} {j = a} h in
    let more = mul-le 1 4294967296 (suc (4294967295 - b)) (2 ^ a) (omega arith) large in
    grind (arith, nat_tests))

pub shift_far : (b a : ℕ) → 32 ≤ a → b < 2 ^ 32 → not (eqb b 0) ≡ not (fits (signed b *ℤ pos (2 ^ a)))
shift_far b a h l = grind (arith, cases_lt, far_positive, far_negative)
