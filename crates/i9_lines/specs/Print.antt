-- What printing a text does to a sink.
use Rattle.std.specs.Prelude.{◌≡◌, ◌≢◌, ℕ, zero, suc, ◌+◌, ◌≤◌, if◌then◌else◌, List, [], ◌∷◌, ◌++◌, length, Option}
use Rattle.std.specs.List.{position_or_len}
use Rattle.std.specs.Io.KnownBytes.{Appends}
use Rattle.i9_model.specs.PrintedText.{shown_text}
use Rattle.i9_machine.specs.declared.line.Line.{Line}
use Rattle.i9_machine.specs.Line.{shown_of}
use Rattle.i9_lines.specs.declared.print.Printed.{Printed}
use Rattle.i9_lines.specs.declared.print.Printed.TheVariants as printed
use Rattle.i9_text.specs.Text.{is_line_feed}
use Rattle.i9_outside.specs.Counts.{one_more, Rose}
use Rattle.i9_outside.specs.Traits.{AppendsFront}

-- What the members of a sink's type say: its bytes, how many faults were met, how many writes were begun, of how many
-- bytes it is sure, and which pieces the last calls took.
pub record Account (K : Type 0) : Type 1 where
  pub told : K → Option (List ℕ)
  pub faults : K → ℕ
  pub writes : K → ℕ
  pub sure : K → ℕ → Type 0
  pub pieces : K → List (List ℕ) → Type 0

abbrev pub account : {K : Type 0} → (K → Option (List ℕ)) → (K → ℕ) → (K → ℕ) → (K → ℕ → Type 0)
    → (K → List (List ℕ) → Type 0)
    → Account K
account told faults writes sure pieces = record
    { told = told; faults = faults; writes = writes; sure = sure; pieces = pieces }

-- what was written to: what the members of a sink's type say, and the sink before and after
pub record Output (K : Type 0) : Type 1 where
  pub account : Account K
  pub old : K
  pub new : K

abbrev pub output : {K : Type 0} → Account K → K → K → Output K
output k old new = record { account = k; old = old; new = new }

-- ---- lines

-- a byte in front of the first line, or as a line of its own where there is none
abbrev pub onto_first : ℕ → List (List ℕ) → List (List ℕ)
onto_first b [] = (b ∷ []) ∷ []
onto_first b (line ∷ lines) = (b ∷ line) ∷ lines

-- the lines of a text, each with its line feed, which the last one may lack
abbrev pub lines_in : List ℕ → List (List ℕ)
lines_in [] = []
lines_in (b ∷ bs) = if is_line_feed b then (b ∷ []) ∷ lines_in bs else onto_first b (lines_in bs)

-- a text that is one line, which may lack its line feed
abbrev pub IsPiece : List ℕ → Type 0
IsPiece text = lines_in text ≡ text ∷ []

-- a text that is one line with its line feed: its first line feed is its last byte
abbrev pub IsLine : List ℕ → Type 0
IsLine text = position_or_len is_line_feed text + 1 ≡ length text

-- ---- counts

-- so many more were counted, one after the other
abbrev pub counted_on : ℕ → ℕ → ℕ
counted_on before zero = before
counted_on before (suc n) = one_more (counted_on before n)

-- so many more were counted, at most this many
pub record CountsUpTo (most before now : ℕ) : Type 0 where
  pub number : ℕ
  pub few : number ≤ most
  pub counted : now ≡ counted_on before number

-- one write was begun for each line of a text that was printed whole, and at most one for each line of another one
abbrev pub PrintCount : Printed → ℕ → ℕ → ℕ → Type 0
PrintCount printed.Done lines before now = now ≡ counted_on before lines
PrintCount printed.Write lines before now = CountsUpTo lines before now
PrintCount printed.Memory lines before now = CountsUpTo lines before now

-- ---- pieces

-- calls took these pieces, one a call, behind what was taken before
abbrev pub Takes : {K : Type 0} → (K → List (List ℕ) → Type 0) → List (List ℕ) → K → K → Type 0
Takes taken pieces old new = (before : List (List ℕ)) → taken old before → taken new (before ++ pieces)

-- The first of some lines were taken, and then a front of the next one.
pub record TakesFront {K : Type 0} (taken : K → List (List ℕ) → Type 0) (lines : List (List ℕ))
    (old new : K) : Type 0 where
  pub first : List (List ℕ)
  pub front : List ℕ
  pub back : List ℕ
  pub left : List (List ℕ)
  pub parts : first ++ (front ++ back) ∷ left ≡ lines
  pub takes : Takes taken (first ++ front ∷ []) old new

-- The first of some lines were taken.
pub record TakesFirst {K : Type 0} (taken : K → List (List ℕ) → Type 0) (lines : List (List ℕ))
    (old new : K) : Type 0 where
  pub first : List (List ℕ)
  pub left : List (List ℕ)
  pub parts : first ++ left ≡ lines
  pub takes : Takes taken first old new

-- each call took a line of the text, and a call that failed a front of one
abbrev pub PrintPieces : {K : Type 0} → (K → List (List ℕ) → Type 0) → Printed → List (List ℕ) → K → K → Type 0
PrintPieces taken printed.Done lines old new = Takes taken lines old new
PrintPieces taken printed.Write lines old new = TakesFront taken lines old new
PrintPieces taken printed.Memory lines old new = TakesFirst taken lines old new

-- ---- printing

-- the whole text where it is done, and else a front of it
abbrev pub PrintLeaves : Printed → Option (List ℕ) → Option (List ℕ) → List ℕ → Type 0
PrintLeaves printed.Done old new text = Appends old new text
PrintLeaves printed.Write old new text = AppendsFront old new text
PrintLeaves printed.Memory old new text = AppendsFront old new text

-- the count of faults rises exactly where the answer is `Write`
abbrev pub PrintCause : Printed → ℕ → ℕ → Type 0
PrintCause printed.Done before now = now ≡ before
PrintCause printed.Write before now = Rose before now
PrintCause printed.Memory before now = now ≡ before

-- a fact where the text was printed whole
abbrev pub OnDone : Printed → Type 0 → Type 0
OnDone printed.Done P = P
OnDone printed.Write P = Unit {0}
OnDone printed.Memory P = Unit {0}

-- printing stopped before all was printed
abbrev pub IsCut : Printed → Type 0
IsCut printed.Done = ⊥
IsCut printed.Write = Unit {0}
IsCut printed.Memory = Unit {0}

-- a fact where printing stopped
abbrev pub OnCut : Printed → Type 0 → Type 0
OnCut printed.Done P = Unit {0}
OnCut printed.Write P = P
OnCut printed.Memory P = P

-- A text was printed on a sink of this type.
pub record Prints {K : Type 0} (answer : Printed) (k : Account K) (old new : K) (text : List ℕ) : Type 0 where
  pub later : k.faults old ≤ k.faults new
  pub leaves : PrintLeaves answer (k.told old) (k.told new) text
  pub cause : PrintCause answer (k.faults old) (k.faults new)
  pub lines : PrintCount answer (length (lines_in text)) (k.writes old) (k.writes new)
  pub pieces : PrintPieces k.pieces answer (lines_in text) old new
  pub calm : (n : ℕ) → k.sure old (length text + n)
      → (answer ≢ printed.Write) × (k.faults new ≡ k.faults old) × OnDone answer (k.sure new n)

-- the text of a line of the machine
abbrev pub line_text : Line → List ℕ
line_text l = shown_text (shown_of l)
