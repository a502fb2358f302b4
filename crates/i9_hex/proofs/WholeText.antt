-- What the reader of a text answers: the image that the lines say, or the first fault.
use Rattle.std.proofs.Common.{◌≡◌, ℕ, Bool, true, List, Option, None, Result, Ok, Err, refl, ap, subst, IfOk, IfErr, arith}
use Rattle.i9_text.specs.Text.{lines_of}
use Rattle.i9_text.specs.FirstFault.{or_fault}
use Rattle.i9_text.proofs.FirstFault.{read_from, SaysAll-read, read_from-says, read_from-refused, refused-read}
use Rattle.i9_model.specs.Image.{Part, pairs_of}
use Rattle.i9_model.specs.HexText.{HexState, start, Says, fault_of, missing_end, IsImage, IsRefused}
use Rattle.i9_hex.specs.declared.error.HexError.{HexError}
use Rattle.i9_hex.specs.Lines.{with_line}
use Rattle.i9_hex.specs.Reading.{place_of, Reads, IfBad}
use Rattle.i9_hex.proofs.OneLine.{says_line, line_says}

-- a reader's answer, from the state that it ends in
abbrev pub pairs_or_fault : Result HexState (ℕ × ℕ) → Result (List (ℕ × ℕ)) (ℕ × ℕ)
pairs_or_fault (Ok s) = Ok s.pairs
pairs_or_fault (Err fault) = Err fault

-- what reading the whole text gives
abbrev pub state_or_fault : List ℕ → Result HexState (ℕ × ℕ)
state_or_fault text = read_from fault_of with_line missing_end 0 start (lines_of text)

abbrev pub answer_of : List ℕ → Result (List (ℕ × ℕ)) (ℕ × ℕ)
answer_of text = pairs_or_fault (state_or_fault text)

-- at the end of the text
pub pairs-at_end : (o : Option ℕ) (n : ℕ) (s : HexState) → pairs_or_fault (or_fault o n (Ok s)) ≡ or_fault o n (Ok s.pairs)
pairs-at_end o n s = grind arith

-- where the answer is an image, or a fault
pairs_ok : (r : Result HexState (ℕ × ℕ)) (ps : List (ℕ × ℕ)) → pairs_or_fault r ≡ Ok ps → (t : HexState) × (r ≡ Ok t) × (t.pairs ≡ ps)
pairs_ok r ps e = grind arith

-- the end record was read exactly where nothing is missing
pub is_ended : (s : HexState) (b : Bool) → s.ended ≡ b → missing_end s ≡ None → s.ended ≡ true
is_ended s b is fine = grind arith

pub has_end : (s : HexState) → s.ended ≡ true → missing_end s ≡ None
has_end s ended = rw ended refl

-- ---- the clauses of the reader

pub found : (text : List ℕ) (r : Result (List Part) HexError) → Reads r (answer_of text) → IfOk r (λ image. IsImage (lines_of text) (pairs_of image))
found text (Ok x) h =
    let a = pairs_ok (state_or_fault text) (pairs_of x) h in
    let b = SaysAll-read Says fault_of with_line missing_end start says_line line_says 0 start a.0 (lines_of text) a.1 in
    record { last = a.0; says = b.0; ended = is_ended a.0 a.0.ended refl b.1; same = a.2 }
found text (Err e) h = tt

pub only : (text : List ℕ) (r : Result (List Part) HexError) → Reads r (answer_of text) → (pairs : List (ℕ × ℕ)) → IsImage (lines_of text) pairs → Reads r (Ok pairs)
only text r h pairs image =
    let e = read_from-says Says fault_of with_line missing_end start says_line line_says 0 start image.last (lines_of text) image.says (has_end image.last image.ended) in
    let answer : answer_of text ≡ Ok pairs = rw e (ap Ok image.same) in
    subst (λ (a : Result (List (ℕ × ℕ)) (ℕ × ℕ)). Reads r a) answer h

pub refused : (text : List ℕ) (r : Result (List Part) HexError) → Reads r (answer_of text) → IfErr r (λ e. IfBad e (λ f. IsRefused (lines_of text) (place_of f)))
refused text r h = grind (arith, refused-read, says_line, line_says)

pub first : (text : List ℕ) (r : Result (List Part) HexError) → Reads r (answer_of text) → (fault : ℕ × ℕ) → IsRefused (lines_of text) fault → Reads r (Err fault)
first text r h fault bad = grind (arith, read_from-refused, says_line, line_says)
