-- A read without a hazard sees hard bytes alone, so it gives the same in every memory that has these.
use Rattle.std.proofs.Common.{◌≡◌, ℕ, zero, suc, ◌+◌, ◌*◌, ◌<◌, ◌≤◌, Bool, true, false, cond, List, [], ◌∷◌, map, None, refl, sym, ap, ◌∙◌, arith}
use Rattle.std.specs.Prelude.{not, nat_le}
use Rattle.std.specs.List.{range_with_len}
use Rattle.std.proofs.lemmas.Bool.{not_from_false, or_left, or_right}
use Rattle.std.proofs.lemmas.Bool.Decides.{nat_tests}
use Rattle.std.specs.Int.{w16, from_le_bytes, from_be_bytes}
use Rattle.i9_model.specs.Writes.{address_count, wrapped}
use Rattle.i9_model.specs.Memory.{Memory, in_port_page, region_of, is_big, half_in, word_in, words_in, ordered_word}
use Rattle.i9_model.specs.State.{Frames}
use Rattle.i9_model.specs.Hazards.{read_hazard}
use Rattle.i9_model.specs.Alike.{is_beyond, is_hard, AgreeWhere, with_other}
use Rattle.i9_model.proofs.FrameLaws.{read_hazard-none}
pub use Rattle.i9_model.proofs.Among.{in_bytes-has}

-- ---- bytes

-- a byte of a read
pub byte_same : (f : Frames) (m : Memory) (bytes : ℕ → ℕ) (a n k : ℕ) → AgreeWhere (is_hard f) m bytes → read_hazard f a n ≡ None → k < n → bytes (wrapped (a + k)) ≡ m.bytes (wrapped (a + k))
byte_same f m bytes a n k same none h = grind (arith, or_right, not_from_false, read_hazard-none, in_bytes-has)

is_wrapped : (a : ℕ) → a < address_count → wrapped (a + 0) ≡ a
is_wrapped a h = omega arith

-- the first byte of a read
pub first_same : (f : Frames) (m : Memory) (bytes : ℕ → ℕ) (a n : ℕ) → AgreeWhere (is_hard f) m bytes → read_hazard f a n ≡ None → 0 < n → bytes a ≡ m.bytes a
first_same f m bytes a n same none h = by_range (nat_le address_count a) refl
  where
    inside : nat_le address_count a ≡ false → a < address_count
    inside t = grind (arith, nat_tests, t)

    by_range : (b : Bool) → nat_le address_count a ≡ b → bytes a ≡ m.bytes a
    by_range true t = same a (or_left (is_beyond a) (not (f.soft a)) (or_right (in_port_page a) (nat_le address_count a) t))
    by_range false t =
        let e = is_wrapped a (inside t) in
        ap bytes (sym e) ∙ byte_same f m bytes a n 0 same none h ∙ ap m.bytes e

-- ---- halves and words

-- all bytes from an address on
abbrev pub SameBytes : Memory → (ℕ → ℕ) → ℕ → ℕ → Type 0
SameBytes m bytes a n = (k : ℕ) → k < n → bytes (wrapped (a + k)) ≡ m.bytes (wrapped (a + k))

pub read_same : (f : Frames) (m : Memory) (bytes : ℕ → ℕ) (a n : ℕ) → AgreeWhere (is_hard f) m bytes → read_hazard f a n ≡ None → SameBytes m bytes a n
read_same f m bytes a n same none = λ k h. byte_same f m bytes a n k same none h

pub next_place : (a k j : ℕ) → wrapped (wrapped (a + k) + j) ≡ wrapped (a + (k + j))
next_place a k j = omega arith

pub four : (m : Memory) (a p q r s v w x y : ℕ) → p ≡ v → q ≡ w → r ≡ x → s ≡ y → ordered_word m a (p ∷ q ∷ r ∷ s ∷ []) ≡ ordered_word m a (v ∷ w ∷ x ∷ y ∷ [])
four m a p q r s v w x y h i j k = rw (h, i, j, k) refl

pub two : (read : List ℕ → ℕ) (p q v w : ℕ) → p ≡ v → q ≡ w → read (p ∷ q ∷ []) ≡ read (v ∷ w ∷ [])
two read p q v w h i = rw (h, i) refl

-- a half that is read
pub half_same : (f : Frames) (m : Memory) (bytes : ℕ → ℕ) (a : ℕ) → AgreeWhere (is_hard f) m bytes → read_hazard f a 2 ≡ None → half_in (with_other m bytes) a ≡ half_in m a
unfolding half_in
half_same f m bytes a same none =
    two (λ (bs : List ℕ). cond (is_big m (region_of a)) (from_be_bytes w16 bs) (from_le_bytes w16 bs)) (bytes a) (bytes (wrapped (a + 1))) (m.bytes a) (m.bytes (wrapped (a + 1)))
    (first_same f m bytes a 2 same none (omega arith))
    (byte_same f m bytes a 2 1 same none (omega arith))

-- a word that is read, alone or as the first of several
pub word_same : (f : Frames) (m : Memory) (bytes : ℕ → ℕ) (a n : ℕ) → AgreeWhere (is_hard f) m bytes → read_hazard f a n ≡ None → 4 ≤ n → word_in (with_other m bytes) a ≡ word_in m a
unfolding word_in
word_same f m bytes a n same none h =
    four m a (bytes a) (bytes (wrapped (a + 1))) (bytes (wrapped (a + 2))) (bytes (wrapped (a + 3))) (m.bytes a) (m.bytes (wrapped (a + 1))) (m.bytes (wrapped (a + 2))) (m.bytes (wrapped (a + 3)))
    (first_same f m bytes a n same none (omega arith))
    (byte_same f m bytes a n 1 same none (omega arith))
    (byte_same f m bytes a n 2 same none (omega arith))
    (byte_same f m bytes a n 3 same none (omega arith))

-- a word within a read
pub inner_word_same : (m : Memory) (bytes : ℕ → ℕ) (a n k : ℕ) → SameBytes m bytes a n → k + 4 ≤ n → word_in (with_other m bytes) (wrapped (a + k)) ≡ word_in m (wrapped (a + k))
unfolding word_in
inner_word_same m bytes a n k same h = grind (arith, four, next_place)

-- ---- words in a row

map_same : (f g : ℕ → ℕ) (a n : ℕ) → ((k : ℕ) → k < n → f (a + k) ≡ g (a + k)) → map f (range_with_len a n) ≡ map g (range_with_len a n)
map_same f g a zero same = refl
map_same f g a (suc n) same =
    let none : a + 0 ≡ a = omega arith in
    let first : f a ≡ g a = ap f (sym none) ∙ same 0 (omega arith) ∙ ap g none in
    let later : map f (range_with_len (a + 1) n) ≡ map g (range_with_len (a + 1) n) = map_same f g (a + 1) n (λ k h.
    let next : a + suc k ≡ a + 1 + k = omega arith in ap f (sym next) ∙ same (suc k) (omega arith) ∙ ap g next) in
    ap (λ (v : ℕ). v ∷ map f (range_with_len (a + 1) n)) first ∙ ap (λ (vs : List ℕ). g a ∷ vs) later

pub map_below : (f g : ℕ → ℕ) (n : ℕ) → ((k : ℕ) → k < n → f k ≡ g k) → map f (range_with_len 0 n) ≡ map g (range_with_len 0 n)
map_below f g n same = map_same f g 0 n (λ k h. let e : 0 + k ≡ k = omega arith in ap f e ∙ same k h ∙ ap g (sym e))

-- so many words from an address on
pub words_same : (m : Memory) (bytes : ℕ → ℕ) (a n c : ℕ) → SameBytes m bytes a n → 4 * c ≤ n → words_in (with_other m bytes) a c ≡ words_in m a c
words_same m bytes a n c same h = grind (arith, map_below, inner_word_same)
