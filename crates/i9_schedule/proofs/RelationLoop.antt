-- One turn of the loop that reads a text line by line. Its invariant is that the lines in front say the commands.
use Rattle.std.proofs.Common.{◌≡◌, ℕ, ◌+◌, List, [], ◌∷◌, ◌++◌, length, Option, Some, None, MatchOption, Bor, refl, sym, ap, subst, ◌∙◌, append_assoc, length-append}
use Rattle.std.proofs.lemmas.List.{append-nil}
use Rattle.i9_text.specs.Text.{lines_of, lines_left}
use Rattle.i9_text.proofs.Loop.{lines_left-split}
use Rattle.i9_text.proofs.FirstFaultOnce.{SaysAll-append}
use Rattle.i9_schedule.specs.Reading.{IfBad}
use Rattle.i9_schedule.specs.declared.error.LineError.{LineError}
use Rattle.i9_schedule.specs.declared.error.LineError.TheVariants as errors
use Rattle.i9_schedule.specs.ScriptText.{Says, HasFault, IsScript, IsRefused, at_line}
use Rattle.i9_schedule.specs.declared.command.Command.{Command}

-- the lines in front were read, n of them, and say cs
pub record ReadSoFar (n : ℕ) (cs : List Command) (left : Option (Bor (List ℕ))) (lines : List (List ℕ)) : Type 0 where
  pub front : List (List ℕ)
  pub all : IsScript front cs
  pub whole : front ++ lines_left left ≡ lines
  pub count : length front ≡ n

-- one line more
pub script-push : (front : List (List ℕ)) (line : List ℕ) (cs ds : List Command) → IsScript front cs → Says cs line ds → IsScript (front ++ line ∷ []) ds
script-push front line cs ds before now = SaysAll-append Says [] cs ds front (line ∷ []) before (ds, now, refl)

-- the text that is left begins with this line
begins : (left : Option (Bor (List ℕ))) (text : Bor (List ℕ)) (line : List ℕ) (after : Option (Bor (List ℕ))) → left ≡ Some text
    → MatchOption after (lines_of text.now ≡ line ∷ []) (λ rest. lines_of text.now ≡ line ∷ lines_of rest.now) → lines_left left ≡ line ∷ lines_left after
begins left text line after some split = ap lines_left some ∙ lines_left-split text.now line after split

pub turn : (n : ℕ) (cs ds : List Command) (left : Option (Bor (List ℕ))) (text : Bor (List ℕ)) (line : List ℕ) (after : Option (Bor (List ℕ))) (lines : List (List ℕ)) → left ≡ Some text
    → MatchOption after (lines_of text.now ≡ line ∷ []) (λ rest. lines_of text.now ≡ line ∷ lines_of rest.now) → ReadSoFar n cs left lines → Says cs line ds → ReadSoFar (n + 1) ds after lines
turn n cs ds left text line after lines some split h now = record {
  front = h.front ++ line ∷ [];
  all = script-push h.front line cs ds h.all now;
  whole = append_assoc h.front (line ∷ []) (lines_left after) ∙ ap (λ ls. h.front ++ ls) (sym (begins left text line after some split)) ∙ h.whole;
  count = length-append h.front (line ∷ []) ∙ ap (λ m. m + 1) h.count;
}

pub wrong : (n k : ℕ) (cs : List Command) (left : Option (Bor (List ℕ))) (text : Bor (List ℕ)) (line : List ℕ) (after : Option (Bor (List ℕ))) (lines : List (List ℕ)) → left ≡ Some text
    → MatchOption after (lines_of text.now ≡ line ∷ []) (λ rest. lines_of text.now ≡ line ∷ lines_of rest.now) → ReadSoFar n cs left lines → HasFault cs line k → IsRefused lines (n + 1, k)
wrong n k cs left text line after lines some split h fault =
    subst (λ m. IsRefused lines (m + 1, k)) h.count
    (subst (λ ls. IsRefused ls (length h.front + 1, k)) (ap (λ ls. h.front ++ ls) (sym (begins left text line after some split)) ∙ h.whole) (at_line h.front line (lines_left after) cs k h.all fault))

pub done : (n : ℕ) (cs : List Command) (left : Option (Bor (List ℕ))) (lines : List (List ℕ)) → left ≡ None → ReadSoFar n cs left lines → IsScript lines cs
done n cs left lines none h = subst (λ ls. IsScript ls cs) (sym (append-nil h.front) ∙ ap (λ o. h.front ++ lines_left o) (sym none) ∙ h.whole) h.all

-- the error of a line is the first fault of the text, where the line's fault is
pub refused_for : (lines : List (List ℕ)) (cs : List Command) (line : List ℕ) (number : ℕ) (error : LineError) → IfBad error (λ f. (f.0 ≡ number) × HasFault cs line f.1) → ((kind : ℕ) → HasFault cs line kind → IsRefused lines (number, kind))
    → IfBad error (λ f. IsRefused lines f)
refused_for lines cs line number errors.Memory h known = tt
refused_for lines cs line number (errors.Bad f) h known = subst (λ m. IsRefused lines (m, f.kind)) (sym h.0) (known f.kind h.1)
