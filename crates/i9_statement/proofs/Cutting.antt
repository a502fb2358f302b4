-- A text that is cut where it was joined gives its parts.
use Rattle.std.proofs.Common.{◌≡◌, ℕ, Bool, true, false, not, List, [], ◌∷◌, ◌++◌, length, take, drop, Some, refl, ap, ◌∙◌, arith}
use Rattle.std.specs.List.{position_or_len, list_all}
use Rattle.std.proofs.lemmas.Bool.{and_parts, not-true}
use Rattle.std.proofs.lemmas.List.Folds.{list_all-append}
use Rattle.std.proofs.Math.Seq.{take-append_seam, drop-append_seam}
use Rattle.i9_statement.specs.Cut.{before, from, is_byte, closed}

-- no byte passes
abbrev pub is_free : (ℕ → Bool) → List ℕ → Bool
is_free p w = list_all (λ b. not (p b)) w

-- nothing, or a byte that passes first
abbrev pub stops : (ℕ → Bool) → List ℕ → Bool
stops p [] = true
stops p (b ∷ t) = p b

pub cut_place : (p : ℕ → Bool) (w t : List ℕ) → is_free p w ≡ true → stops p t ≡ true → position_or_len p (w ++ t) ≡ length w
cut_place p [] [] free stop = refl
cut_place p [] (b ∷ t) free stop = rw stop refl
cut_place p (b ∷ w) t free stop =
    let h = and_parts (not (p b)) (list_all (λ x. not (p x)) w) free in
    let rest = cut_place p w t h.1 stop in
    rw (not-true (p b) h.0) (omega (arith, rest))

pub before-cut : (p : ℕ → Bool) (w t : List ℕ) → is_free p w ≡ true → stops p t ≡ true → before p (w ++ t) ≡ w
before-cut p w t free stop = ap (λ n. take n (w ++ t)) (cut_place p w t free stop) ∙ take-append_seam w t

pub from-cut : (p : ℕ → Bool) (w t : List ℕ) → is_free p w ≡ true → stops p t ≡ true → from p (w ++ t) ≡ t
from-cut p w t free stop = ap (λ n. drop n (w ++ t)) (cut_place p w t free stop) ∙ drop-append_seam w t

-- a bracket that is closed
pub closed-cut : (x : ℕ) (w t : List ℕ) → is_free (is_byte x) w ≡ true → closed x (w ++ x ∷ t) ≡ Some (w, t)
unfolding closed
closed-cut x w t free = grind (arith, before-cut, from-cut)

-- bytes of a class that no byte of the test is in
pub free_by : (q p : ℕ → Bool) → ((b : ℕ) → q b ≡ true → p b ≡ false) → (w : List ℕ) → list_all q w ≡ true → is_free p w ≡ true
free_by q p apart [] h = refl
free_by q p apart (b ∷ w) h =
    let parts = and_parts (q b) (list_all q w) h in
    rw (apart b parts.0) (free_by q p apart w parts.1)

pub all_by : (q p : ℕ → Bool) → ((b : ℕ) → q b ≡ true → p b ≡ true) → (w : List ℕ) → list_all q w ≡ true → list_all p w ≡ true
all_by q p within [] h = refl
all_by q p within (b ∷ w) h =
    let parts = and_parts (q b) (list_all q w) h in
    rw (within b parts.0) (all_by q p within w parts.1)

pub all_append : (q : ℕ → Bool) (v w : List ℕ) → list_all q v ≡ true → list_all q w ≡ true → list_all q (v ++ w) ≡ true
all_append q v w hv hw = list_all-append q v w ∙ rw hv hw

-- a byte that is not in a class is none of its bytes
pub apart_by : (q : ℕ → Bool) (x b : ℕ) → q x ≡ false → q b ≡ true → is_byte x b ≡ false
apart_by q x b other h = grind arith

pub free_in : (q : ℕ → Bool) (x : ℕ) (w : List ℕ) → q x ≡ false → list_all q w ≡ true → is_free (is_byte x) w ≡ true
free_in q x w other h = free_by q (is_byte x) (λ b. apart_by q x b other) w h
