-- A text that is printed line by line, cut at its first line feed each time.
use Rattle.std.proofs.Common.{◌≡◌, ℕ, suc, ◌+◌, ◌<◌, List, [], ◌∷◌, ◌++◌, length, take, drop, Some, None, refl, ap, ◌∙◌, inl, inr, arith, append_assoc}
use Rattle.std.specs.List.{position, position_or_len}
use Rattle.std.proofs.lemmas.Bool.{cases_Bool}
use Rattle.std.proofs.lemmas.List.{take-append-drop}
use Rattle.i9_text.specs.Text.{is_line_feed}
use Rattle.i9_text.proofs.Cuts.{position_or_len-found, position_or_len-missing}
use Rattle.i9_lines.specs.declared.print.Printed.{Printed}
use Rattle.i9_lines.specs.declared.print.Printed.TheVariants.{Done}
use Rattle.i9_lines.specs.Print.{Account, Prints, IsPiece, IsLine}
use Rattle.i9_lines.proofs.TextLines.{IsClosed, closed_none, closed_join, closed_line, rest_alone}
use Rattle.i9_lines.proofs.Prints.{prints_none, prints_then, prints_stop, prints_same}

-- what stands up to the first line feed ends there
first_line : (text : List ℕ) → position_or_len is_line_feed text < length text → IsLine (take (position_or_len is_line_feed text + 1) text)
first_line [] h = absurd (omega arith)
first_line (b ∷ bs) h = elim (cases_Bool (is_line_feed b)) [
  | inl e ↦ rw (e, e) refl
  | inr e ↦
      let n = position_or_len is_line_feed bs in
      let next : 1 + n + 1 ≡ suc (n + 1) = omega arith in
      let rest : IsLine (take (n + 1) bs) = first_line bs (let j = rw e at h in omega (arith, j)) in
      rw (e, next, e) (omega (arith, rest))
]

pub line_found : (text : List ℕ) (i : ℕ) → Some i ≡ position is_line_feed text → IsLine (take (i + 1) text)
line_found text i e = grind (arith, position_or_len-found, first_line)

-- what has no line feed is one line, where it is something
pub rest_found : (text : List ℕ) → None ≡ position is_line_feed text → 0 < length text → IsPiece text
rest_found text none some = rest_alone text (position_or_len-missing is_line_feed text none) some

module _ {K : Type 0} (k : Account K) where
  -- The lines at the front of the text were printed, each of which has its line feed, and this is left.
  pub record PrintedUpTo (old now : K) (text rest : List ℕ) : Type 0 where
    pub front : List ℕ
    pub whole : front ++ rest ≡ text
    pub closed : IsClosed front
    pub prints : Prints Done k old now front

  pub text_begins : (a : K) (text : List ℕ) → PrintedUpTo a a text text
  text_begins a text = record { front = []; whole = refl; closed = closed_none; prints = prints_none k a }

  joined : (text front rest : List ℕ) (n : ℕ) → front ++ rest ≡ text → (front ++ take n rest) ++ drop n rest ≡ text
  joined text front rest n e = append_assoc front (take n rest) (drop n rest) ∙ ap (λ (bs : List ℕ). front ++ bs) (take-append-drop n rest) ∙ e

  module _ (a b c : K) (text rest : List ℕ) (n : ℕ) (p : PrintedUpTo a b text rest) (line : IsLine (take n rest)) where
    pub text_goes_on : Prints Done k b c (take n rest) → PrintedUpTo a c text (drop n rest)
    text_goes_on q = record {
      front = p.front ++ take n rest;
      whole = joined text p.front rest n p.whole;
      closed = closed_join p.front (take n rest) p.closed (closed_line (take n rest) line);
      prints = prints_then k Done a b c p.front (take n rest) p.closed p.prints q;
    }

    pub text_stops : (answer : Printed) → (answer ≡ Done → ⊥) → Prints answer k b c (take n rest) → Prints answer k a c text
    text_stops answer stops q =
        prints_same k answer a c _ text (joined text p.front rest n p.whole)
        (prints_stop k answer a c (p.front ++ take n rest) (drop n rest) (closed_join p.front (take n rest) p.closed (closed_line (take n rest) line)) stops
        (prints_then k answer a b c p.front (take n rest) p.closed p.prints q))

  -- or what is left is printed too
  pub rest_printed : (answer : Printed) (a b c : K) (text rest : List ℕ) → PrintedUpTo a b text rest → Prints answer k b c rest → Prints answer k a c text
  rest_printed answer a b c text rest p q = prints_same k answer a c _ text p.whole (prints_then k answer a b c p.front rest p.closed p.prints q)
