-- The lines of a text, and of one text behind another.
use Rattle.std.proofs.Common.{◌≡◌, ℕ, ◌<◌, ◌≤◌, List, [], ◌∷◌, ◌++◌, length, refl, sym, ap, ◌∙◌, inl, inr, arith, append_assoc}
use Rattle.std.proofs.lemmas.Bool.{cases_Bool}
use Rattle.std.specs.List.{position_or_len}
use Rattle.std.proofs.lemmas.List.{append-nil}
use Rattle.i9_text.specs.Text.{is_line_feed}
use Rattle.i9_lines.specs.Print.{lines_in, onto_first, IsPiece, IsLine}

nothing_left : (bs : List ℕ) → length bs ≡ 0 → bs ≡ []
nothing_left [] e = refl
nothing_left (b ∷ bs) e = absurd (omega (arith, e))

-- what stands behind a line with its line feed begins another one
pub feed_line : (text behind : List ℕ) → IsLine text → lines_in (text ++ behind) ≡ text ∷ lines_in behind
feed_line [] behind h = absurd (omega (arith, h))
feed_line (b ∷ bs) behind h = elim (cases_Bool (is_line_feed b)) [
  | inl e ↦ let none : bs ≡ [] = nothing_left bs (let j = rw e at h in omega (arith, j)) in rw (e, none) refl
  | inr e ↦ rw e (ap (onto_first b) (feed_line bs behind (let j = rw e at h in omega (arith, j))))
]

-- it is one line
pub line_alone : (text : List ℕ) → IsLine text → IsPiece text
line_alone text h = ap lines_in (sym (append-nil text)) ∙ feed_line text [] h

-- so is what has no line feed, where it is something
pub rest_alone : (text : List ℕ) → length text ≤ position_or_len is_line_feed text → 0 < length text → IsPiece text
rest_alone [] none some = absurd (omega (arith, some))
rest_alone (b ∷ []) none some = grind (arith, cases_Bool)
rest_alone (b ∷ c ∷ cs) none some = elim (cases_Bool (is_line_feed b)) [
  | inl e ↦ absurd (let j = rw e at none in omega (arith, j))
  | inr e ↦
      let rest : IsPiece (c ∷ cs) = rest_alone (c ∷ cs) (let j = rw e at none in omega (arith, j)) (omega arith) in
      rw e (ap (onto_first b) rest)
]

-- ---- texts whose last line has its line feed

-- what stands behind such a text begins a line of its own
pub record IsClosed (text : List ℕ) : Type 0 where
  pub apart : (behind : List ℕ) → lines_in (text ++ behind) ≡ lines_in text ++ lines_in behind

pub closed_none : IsClosed []
closed_none = record { apart = λ behind. refl }

pub closed_line : (text : List ℕ) → IsLine text → IsClosed text
closed_line text h = grind (arith, feed_line, line_alone)

pub closed_join : (x y : List ℕ) → IsClosed x → IsClosed y → IsClosed (x ++ y)
closed_join x y h k = grind (arith, append_assoc)

-- ---- a text that ends with a line feed

some_first : (b : ℕ) (lines : List (List ℕ)) → 0 < length (onto_first b lines)
some_first b lines = grind arith

some_line : (front : List ℕ) → 0 < length (lines_in (front ++ 10 ∷ []))
some_line [] = omega arith
some_line (b ∷ bs) = grind (arith, cases_Bool, some_first)

first_apart : (b : ℕ) (lines later : List (List ℕ)) → 0 < length lines → onto_first b (lines ++ later) ≡ onto_first b lines ++ later
first_apart b lines later some = grind arith

feed_apart : (front behind : List ℕ) → lines_in ((front ++ 10 ∷ []) ++ behind) ≡ lines_in (front ++ 10 ∷ []) ++ lines_in behind
feed_apart [] behind = refl
feed_apart (b ∷ bs) behind = grind (arith, cases_Bool, first_apart, some_line, feed_apart bs behind)

pub closed_feed : (front : List ℕ) → IsClosed (front ++ 10 ∷ [])
closed_feed front = record { apart = feed_apart front }
