-- Reading the words of a text line by line.
use Rattle.std.proofs.Common.{◌≡◌, ℕ, List, [], ◌∷◌, ◌++◌, Option, None, Some, sym, ◌∙◌, ap, subst}
use Rattle.std.specs.Prelude.{MatchOption}
use Rattle.std.specs.Borrow.{Bor}
use Rattle.std.proofs.lemmas.List.{append-nil}
use Rattle.std.specs.List.{AllByRecursion}
use Rattle.std.specs.Str.{IsUtf8}
use Rattle.i9_text.specs.Text.{lines_of, lines_left}
use Rattle.i9_text.proofs.Loop.{lines_left-split}
use Rattle.i9_buffers.specs.Line.{AsksWith, lines, no_text}

-- these lines of all were taken as words, and the rest is left
pub record Taken (all words rest : List (List ℕ)) : Type 0 where
  pub parts : words ++ rest ≡ all
  pub good : AllByRecursion IsUtf8 words

all_behind : (xs : List (List ℕ)) (y : List ℕ) (ys : List (List ℕ)) → AllByRecursion IsUtf8 (xs ++ (y ∷ ys)) → IsUtf8 y
all_behind [] y ys h = h.0
all_behind (x ∷ xs) y ys h = all_behind xs y ys h.1

-- a line more
pub takes : (all words : List (List ℕ)) (left : Option (Bor (List ℕ))) (text : Bor (List ℕ)) (line : List ℕ) (after : Option (Bor (List ℕ)))
    → Taken all words (lines_left left) → left ≡ Some text → MatchOption after (lines_of text.now ≡ line ∷ []) (λ rest. lines_of text.now ≡ line ∷ lines_of rest.now)
    → words ++ (line ∷ lines_left after) ≡ all
takes all words left text line after t some split =
    ap (λ ls. words ++ ls) (sym (ap lines_left some ∙ lines_left-split text.now line after split)) ∙ t.parts

-- a line that isn't UTF-8
pub takes_bad : (words : List (List ℕ)) (text : List ℕ) (left : Option (Bor (List ℕ))) (at : Bor (List ℕ)) (line : List ℕ) (after : Option (Bor (List ℕ)))
    → Taken (lines_of text) words (lines_left left) → left ≡ Some at → MatchOption after (lines_of at.now ≡ line ∷ []) (λ rest. lines_of at.now ≡ line ∷ lines_of rest.now)
    → ¬ (IsUtf8 line) → AsksWith text []
takes_bad words text left at line after t some split bad =
    no_text (λ all. bad (all_behind words line (lines_left after) (subst (λ ls. AllByRecursion IsUtf8 ls) (sym (takes (lines_of text) words left at line after t some split)) all)))

-- all lines were taken
pub takes_all : (text : List ℕ) (words : List (List ℕ)) (left : Option (Bor (List ℕ))) → Taken (lines_of text) words (lines_left left) → left ≡ None → AsksWith text words
takes_all text words left t none =
    let same : words ≡ lines_of text = sym (append-nil words) ∙ ap (λ o. words ++ lines_left o) (sym none) ∙ t.parts in
    subst (AsksWith text) (sym same) (lines (subst (λ ls. AllByRecursion IsUtf8 ls) same t.good))
