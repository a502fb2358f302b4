-- Each text has one answer: an image's pairs, or a first fault.
use Rattle.std.proofs.Common.{◌≡◌, ℕ, ◌⊎◌, inl, inr, List, Result, Ok, Err, refl, ap, arith}
use Rattle.i9_text.specs.Text.{lines_of}
use Rattle.i9_text.proofs.FirstFault.{SaysAll-read, read_from-says, read_from-refused, refused-read}
use Rattle.i9_model.specs.HexText.{HexState, start, Says, fault_of, missing_end, IsImage, IsRefused}
use Rattle.i9_hex.specs.Lines.{with_line}
use Rattle.i9_hex.proofs.OneLine.{says_line, line_says}
use Rattle.i9_hex.proofs.WholeText.{state_or_fault, answer_of, is_ended, has_end}

image-answer : (text : List ℕ) (pairs : List (ℕ × ℕ)) → IsImage (lines_of text) pairs → answer_of text ≡ Ok pairs
image-answer text pairs image =
    let e = read_from-says Says fault_of with_line missing_end start says_line line_says 0 start image.last (lines_of text) image.says (has_end image.last image.ended) in
    rw e (ap Ok image.same)

refused-answer : (text : List ℕ) (fault : ℕ × ℕ) → IsRefused (lines_of text) fault → answer_of text ≡ Err fault
refused-answer text fault bad = grind (arith, read_from-refused, says_line, line_says)

-- by what reading gives
image_or_fault : (text : List ℕ) (r : Result HexState (ℕ × ℕ)) → state_or_fault text ≡ r → ((pairs : List (ℕ × ℕ)) × IsImage (lines_of text) pairs) ⊎ ((fault : ℕ × ℕ) × IsRefused (lines_of text) fault)
image_or_fault text (Ok s) e =
    let b = SaysAll-read Says fault_of with_line missing_end start says_line line_says 0 start s (lines_of text) e in
    inl (s.pairs, record { last = s; says = b.0; ended = is_ended s s.ended refl b.1; same = refl })
image_or_fault text (Err fault) e = inr (fault, refused-read Says fault_of with_line missing_end start says_line line_says (lines_of text) fault e)

pub some_answer : (text : List ℕ) → ((pairs : List (ℕ × ℕ)) × IsImage (lines_of text) pairs) ⊎ ((fault : ℕ × ℕ) × IsRefused (lines_of text) fault)
some_answer text = image_or_fault text (state_or_fault text) refl

pub image_apart : (text : List ℕ) (pairs : List (ℕ × ℕ)) (fault : ℕ × ℕ) → IsImage (lines_of text) pairs → IsRefused (lines_of text) fault → ⊥
image_apart text pairs fault image bad = let a = image-answer text pairs image in let b = refused-answer text fault bad in cc

pub one_image : (text : List ℕ) (ps qs : List (ℕ × ℕ)) → IsImage (lines_of text) ps → IsImage (lines_of text) qs → ps ≡ qs
one_image text ps qs p q = let a = image-answer text ps p in let b = image-answer text qs q in cc

pub one_fault : (text : List ℕ) (f g : ℕ × ℕ) → IsRefused (lines_of text) f → IsRefused (lines_of text) g → f ≡ g
one_fault text f g p q = let a = refused-answer text f p in let b = refused-answer text g q in cc
