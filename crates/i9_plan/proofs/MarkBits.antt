-- Marks as bits of numbers, and marked registers among those of a list.
use Rattle.std.proofs.lemmas.Bool.Decides.{nat_tests}
use Rattle.std.proofs.Common.{◌≡◌, ℕ, zero, suc, ◌+◌, ◌^◌, ◌<◌, ◌≤◌, Bool, true, false, nat_lt, refl, sym, ap, ◌∙◌, arith}
use Rattle.std.specs.Prelude.{◌==◌, ◌&&◌, ◌||◌, not, bit_and, min}
use Rattle.std.specs.List.{list_any, range_with_len}
use Rattle.std.specs.Int.{bit_at, from_bool}
use Rattle.std.proofs.lemmas.Bool.{eqb-true, lt-ltb, and_from, or_parts, ltb-true, both_ways, false_from_ne_true}
use Rattle.std.proofs.lemmas.Nat.Bits.{bit_at_and, bit_at-lt, bit_at_above, same_from_bits}
use Rattle.i9_isa.specs.Words.{bit}
use Rattle.i9_watch.proofs.SetBits.{bit_none}

-- ---- a number is 0 where none of its bits is set

pub zero_bits : (w : ℕ) → ((k : ℕ) → bit w k ≡ false) → w ≡ 0
zero_bits w none = same_from_bits w 0 (λ k. let set = none k in let few = bit_at-lt w k in let low = bit_none k in grind (arith, nat_tests))

-- it is another one where some bit is set
pub some_bit : (w k : ℕ) → bit w k ≡ true → (w == 0) ≡ false
some_bit w k set = false_from_ne_true (w == 0) (λ e. both_ways (bit w k) (ap (λ (n : ℕ). bit n k) (eqb-true w 0 e) ∙ bit_none k) set)

-- ---- numbers in a row of which some pass a test

pub or_none : (b : Bool) → (b || false) ≡ b
or_none b = grind arith

-- of two tests that do not both pass
pub other : (a b : Bool) → (a && b) ≡ false → a ≡ true → b ≡ false
other a b e t = grind arith

-- none of them
pub none_among : (f : ℕ → Bool) (a n : ℕ) → list_any f (range_with_len a n) ≡ false → (k : ℕ) → k < n → f (a + k) ≡ false
none_among f a zero e k h = absurd (omega (arith, h))
none_among f a (suc n) e zero h = let here : a + 0 ≡ a = omega arith in ap f here ∙ (or_parts _ _ e).0
none_among f a (suc n) e (suc k) h =
    let next : a + suc k ≡ a + 1 + k = omega arith in
    ap f next ∙ none_among f (a + 1) n (or_parts _ _ e).1 k (omega (arith, h))

-- one of them
pub record IsAmong (f : ℕ → Bool) (a n : ℕ) : Type 0 where
  pub step : ℕ
  pub few : step < n
  pub passes : f (a + step) ≡ true

pub some_among : (f : ℕ → Bool) (a n : ℕ) → list_any f (range_with_len a n) ≡ true → IsAmong f a n
some_among f a zero e = absurd cc
some_among f a (suc n) e = by (f a) refl (λ rest. some_among f (a + 1) n rest) e
  where
    by : (b : Bool) → f a ≡ b → (list_any f (range_with_len (a + 1) n) ≡ true → IsAmong f (a + 1) n) → (b || list_any f (range_with_len (a + 1) n)) ≡ true → IsAmong f a (suc n)
    by true here rest e = let first : a + 0 ≡ a = omega arith in record { step = 0; few = omega arith; passes = ap f first ∙ here }
    by false here rest e =
        let later = rest e in
        let few = later.few in
        let place : a + suc later.step ≡ a + 1 + later.step = omega arith in
        record { step = suc later.step; few = omega (arith, few); passes = ap f place ∙ later.passes }

pub any_alike : (f g : ℕ → Bool) (a b n : ℕ) → ((k : ℕ) → k < n → f (a + k) ≡ g (b + k)) → list_any f (range_with_len a n) ≡ list_any g (range_with_len b n)
any_alike f g a b zero same = refl
any_alike f g a b (suc n) same =
    let l : a ≡ a + 0 = omega arith in
    let r : b + 0 ≡ b = omega arith in
    let first : f a ≡ g b = ap f l ∙ same 0 (omega arith) ∙ ap g r in
    let later = any_alike f g (a + 1) (b + 1) n (λ k h. let here : a + 1 + k ≡ a + suc k = omega arith in let there : b + suc k ≡ b + 1 + k = omega arith in ap f here ∙ same (suc k) (omega (arith, h)) ∙ ap g there) in
    cc

-- ---- a number whose bits pass a test

second_false : (a b : Bool) → (a ≡ true → b ≡ false) → (a && b) ≡ false
second_false a b h = grind arith

-- it is not 0 where one of them does
pub nonzero_any : (w n : ℕ) (f : ℕ → Bool) → ((k : ℕ) → bit w k ≡ (nat_lt k n && f k)) → not (w == 0) ≡ list_any f (range_with_len 0 n)
nonzero_any w n f bits = by (list_any f (range_with_len 0 n)) refl
  where
    at : (k : ℕ) → f (0 + k) ≡ f k
    at k = let here : 0 + k ≡ k = omega arith in ap f here

    by : (b : Bool) → list_any f (range_with_len 0 n) ≡ b → not (w == 0) ≡ b
    by false e =
        let none = zero_bits w (λ k. bits k ∙ second_false (nat_lt k n) (f k) (λ t. sym (at k) ∙ none_among f 0 n e k (ltb-true k n t))) in
        ap (λ (x : ℕ). not (x == 0)) none
    by true e =
        let one = some_among f 0 n e in
        ap not (some_bit w one.step (bits one.step ∙ and_from (nat_lt one.step n) (f one.step) (lt-ltb one.step n one.few) (sym (at one.step) ∙ one.passes)))

pub as_bool : (b : Bool) → (from_bool b == 1) ≡ b
as_bool b = grind arith

-- the bits of both
bool_and : (x y : ℕ) → x < 2 → y < 2 → (min x y == 1) ≡ ((x == 1) && (y == 1))
bool_and x y h k = grind (arith, nat_tests)

pub both_bits : (v w k : ℕ) → bit (bit_and v w) k ≡ (bit v k && bit w k)
both_bits v w k = ap (λ (n : ℕ). n == 1) (bit_at_and v w k) ∙ bool_and (bit_at v k) (bit_at w k) (bit_at-lt v k) (bit_at-lt w k)

-- a number below 2 ^ n has no bit from n on
pub bit_above : (w n k : ℕ) → w < 2 ^ n → n ≤ k → bit w k ≡ false
bit_above w n k small far = ap (λ (x : ℕ). x == 1) (bit_at_above w n k small far)
