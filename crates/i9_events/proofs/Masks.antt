-- Words with the bits of the members of a list that pass a test.
use Rattle.std.proofs.Common.{◌≡◌, ℕ, ◌+◌, ◌*◌, ◌^◌, ◌<◌, Bool, true, false, cond, ◌&&◌, ◌||◌, List, [], ◌∷◌, refl, sym, ap, ◌∙◌, subst, arith, bit_and, bit_or, add-zero, zero-mul, one-mul}
use Rattle.std.specs.Prelude.{not, ◌==◌, map, filter}
use Rattle.std.specs.List.{list_any}
use Rattle.std.specs.Int.{bit_at}
use Rattle.std.specs.Int.Bits.{or_zero_l, or_zero_r}
use Rattle.std.proofs.lemmas.Bool.Decides.{nat_tests}
use Rattle.std.proofs.lemmas.Nat.{and_comm, and_le_r, le_or_l, or_lt, or_block, pow-add, pow_below, pow_pos}
use Rattle.std.proofs.lemmas.Nat.Bits.{bit_at_or, bit_at-lt, and_pow, same_from_bits}
use Rattle.i9_model.proofs.KeptBits.{and_or}
use Rattle.i9_isa.specs.Words.{bit}
use Rattle.i9_model.specs.Tracing.{with_bits}

-- ---- `|` and `&`

pub or_assoc : (a b c : ℕ) → bit_or (bit_or a b) c ≡ bit_or a (bit_or b c)
or_assoc a b c = same_from_bits (bit_or (bit_or a b) c) (bit_or a (bit_or b c)) (λ k.
    let p = bit_at_or (bit_or a b) c k in
    let q = bit_at_or a b k in
    let r = bit_at_or a (bit_or b c) k in
    let s = bit_at_or b c k in
    omega (arith, p, q, r, s))

-- two unions, member by member
or_pairs : (a x b y : ℕ) → bit_or (bit_or a x) (bit_or b y) ≡ bit_or (bit_or a b) (bit_or x y)
or_pairs a x b y = same_from_bits (bit_or (bit_or a x) (bit_or b y)) (bit_or (bit_or a b) (bit_or x y)) (λ k.
    let p = bit_at_or (bit_or a x) (bit_or b y) k in
    let q = bit_at_or a x k in
    let r = bit_at_or b y k in
    let s = bit_at_or (bit_or a b) (bit_or x y) k in
    let t = bit_at_or a b k in
    let u = bit_at_or x y k in
    omega (arith, p, q, r, s, t, u))

-- ---- one bit

abbrev pub bit_if : Bool → ℕ → ℕ
bit_if b k = cond b (2 ^ k) 0

or_self : (a : ℕ) → bit_or a a ≡ a
or_self a = same_from_bits (bit_or a a) a (λ k. let p = bit_at_or a a k in omega (arith, p))

or_if : (b c : Bool) (k : ℕ) → bit_or (bit_if b k) (bit_if c k) ≡ bit_if (b || c) k
or_if true true k = or_self (2 ^ k)
or_if true false k = or_zero_r (2 ^ k)
or_if false c k = or_zero_l (bit_if c k)

and_zero : (t : ℕ) → bit_and 0 t ≡ 0
and_zero t = and_comm 0 t ∙ omega (arith, and_le_r t 0)

and_test : (t k n : ℕ) → bit_at t k ≡ n → n < 2 → n * 2 ^ k ≡ bit_if (n == 1) k
and_test t k n is small = grind (arith, zero-mul, one-mul)

and_if : (b : Bool) (k t : ℕ) → bit_and (bit_if b k) t ≡ bit_if (b && bit t k) k
and_if b k t = grind (arith, and_comm, and_pow, and_test, bit_at-lt, and_zero)

below_if : (b : Bool) (k n : ℕ) → k < n → bit_if b k < 2 ^ n
below_if b k n small = grind (arith, pow_below, pow_pos)

-- the same bit further up
up_if : (b : Bool) (k d : ℕ) → bit_if b k * 2 ^ d ≡ bit_if b (k + d)
up_if b k d = grind (arith, pow-add, zero-mul)

-- ---- words

-- bits are set in a word, or in 0 and then in the word
pub with_after : (w : ℕ) (places : List ℕ) → with_bits w places ≡ bit_or w (with_bits 0 places)
with_after w [] = sym (or_zero_r w)
with_after w (k ∷ places) =
    with_after (bit_or w (2 ^ k)) places ∙ or_assoc w (2 ^ k) (with_bits 0 places)
    ∙ ap (bit_or w) (sym (with_after (2 ^ k) places))

module _ {X : Type 0} (place : X → ℕ) where
  -- the bits of those members that pass
  abbrev pub mask : (X → Bool) → List X → ℕ
  mask p xs = with_bits 0 (map place (filter p xs))

  next_by : (b : Bool) (w k : ℕ) (places : List ℕ) → with_bits (bit_or w (bit_if b k)) places ≡ with_bits w (cond b (k ∷ places) places)
  next_by true w k places = refl
  next_by false w k places = ap (λ (v : ℕ). with_bits v places) (or_zero_r w)

  map_by : (b : Bool) (x : X) (xs : List X) → cond b (place x ∷ map place xs) (map place xs) ≡ map place (cond b (x ∷ xs) xs)
  map_by b x xs = grind arith

  -- a word with the bit of one more member
  pub next : (p : X → Bool) (w : ℕ) (x : X) (xs : List X) → with_bits (bit_or w (bit_if (p x) (place x))) (map place (filter p xs)) ≡ with_bits w (map place (filter p (x ∷ xs)))
  next p w x xs = next_by (p x) w (place x) (map place (filter p xs)) ∙ ap (with_bits w) (map_by (p x) x (filter p xs))

  first : (p : X → Bool) (x : X) (xs : List X) → mask p (x ∷ xs) ≡ bit_or (bit_if (p x) (place x)) (mask p xs)
  first p x xs = grind (arith, next, with_after)

  -- those whose bit is in a word
  pub mask_and : (p : X → Bool) (t : ℕ) (xs : List X) → bit_and (mask p xs) t ≡ mask (λ x. p x && bit t (place x)) xs
  mask_and p t [] = and_zero t
  mask_and p t (x ∷ xs) =
      ap (λ (w : ℕ). bit_and w t) (first p x xs) ∙ and_or (bit_if (p x) (place x)) (mask p xs) t
      ∙ ap (λ (w : ℕ). bit_or w (bit_and (mask p xs) t)) (and_if (p x) (place x) t)
      ∙ ap (bit_or (bit_if (p x && bit t (place x)) (place x))) (mask_and p t xs)
      ∙ sym (first (λ y. p y && bit t (place y)) x xs)

  -- those that pass one test or the other
  pub mask_or : (p q : X → Bool) (xs : List X) → bit_or (mask p xs) (mask q xs) ≡ mask (λ x. p x || q x) xs
  mask_or p q [] = refl
  mask_or p q (x ∷ xs) =
      ap (λ (w : ℕ). bit_or w (mask q (x ∷ xs))) (first p x xs)
      ∙ ap (bit_or (bit_or (bit_if (p x) (place x)) (mask p xs))) (first q x xs)
      ∙ or_pairs (bit_if (p x) (place x)) (mask p xs) (bit_if (q x) (place x)) (mask q xs)
      ∙ ap (λ (w : ℕ). bit_or w (bit_or (mask p xs) (mask q xs))) (or_if (p x) (q x) (place x))
      ∙ ap (bit_or (bit_if (p x || q x) (place x))) (mask_or p q xs)
      ∙ sym (first (λ y. p y || q y) x xs)

  pub mask_below : (p : X → Bool) (n : ℕ) → ((x : X) → place x < n) → (xs : List X) → mask p xs < 2 ^ n
  mask_below p n small [] = pow_pos n
  mask_below p n small (x ∷ xs) =
      let here = or_lt n (bit_if (p x) (place x)) (mask p xs) (below_if (p x) (place x) n (small x)) (mask_below p n small xs) in
      subst (λ (w : ℕ). w < 2 ^ n) (sym (first p x xs)) here

  none_by : (b : Bool) (k w : ℕ) (any : Bool) → (w == 0) ≡ not any → (bit_or (bit_if b k) w == 0) ≡ not (b || any)
  none_by b k w any rest = grind (arith, le_or_l, pow_pos, nat_tests)

  -- there is no bit where none passes
  pub mask_none : (p : X → Bool) (xs : List X) → (mask p xs == 0) ≡ not (list_any p xs)
  mask_none p [] = refl
  mask_none p (x ∷ xs) = ap (λ (w : ℕ). w == 0) (first p x xs) ∙ none_by (p x) (place x) (mask p xs) (list_any p xs) (mask_none p xs)

-- a union, shifted
or_up : (a b d : ℕ) → bit_or a b * 2 ^ d ≡ bit_or (a * 2 ^ d) (b * 2 ^ d)
or_up a b d = sym (simp add-zero at (or_block d a b 0 0 (pow_pos d) (pow_pos d)))

-- the bits of the same members further up
pub mask_up : {X : Type 0} (place : X → ℕ) (d : ℕ) (p : X → Bool) (xs : List X) → mask place p xs * 2 ^ d ≡ mask (λ x. place x + d) p xs
mask_up place d p [] = zero-mul (2 ^ d)
mask_up place d p (x ∷ xs) =
    ap (λ (w : ℕ). w * 2 ^ d) (first place p x xs) ∙ or_up (bit_if (p x) (place x)) (mask place p xs) d
    ∙ ap (λ (w : ℕ). bit_or w (mask place p xs * 2 ^ d)) (up_if (p x) (place x) d)
    ∙ ap (bit_or (bit_if (p x) (place x + d))) (mask_up place d p xs)
    ∙ sym (first (λ y. place y + d) p x xs)
