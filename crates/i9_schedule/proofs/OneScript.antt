-- Each text has one answer: a script's commands, or a first fault.
use Rattle.std.proofs.Common.{◌≡◌, ℕ, ◌+◌, ◌⊎◌, inl, inr, List, [], ◌∷◌, ◌++◌, length, None, Result, Ok, Err, IfOk, IfErr, refl, ap, subst, append_assoc}
use Rattle.std.proofs.lemmas.List.{append-nil}
use Rattle.i9_text.specs.FirstFault as texts
use Rattle.i9_text.proofs.FirstFaultOnce.{all_once, refused_once, never_both}
use Rattle.i9_schedule.specs.Reading.{IfBad, place_of}
use Rattle.i9_schedule.specs.declared.error.LineError.{LineError}
use Rattle.i9_schedule.specs.declared.error.LineError.TheVariants as errors
use Rattle.i9_schedule.specs.ScriptText.{Says, IsScript, IsRefused, at_line}
use Rattle.i9_schedule.specs.ScriptReading.{Answers}
use Rattle.i9_schedule.specs.declared.command.Command.{Command}
use Rattle.i9_schedule.proofs.LineCases.{fault_of, line_says, line_faults, says_once, says_or_faults}
use Rattle.i9_schedule.proofs.RelationLoop.{script-push}

fine_line : (cs : List Command) (line : List ℕ) (ds : List Command) → Says cs line ds → fault_of cs line ≡ None
fine_line cs line ds x = (line_says cs line ds x).0

-- by the function that gives the fault of a line
by_fault : (lines : List (List ℕ)) (f : ℕ × ℕ) → IsRefused lines f → texts.IsRefused Says fault_of (λ _. None) [] lines f
by_fault _ _ (at_line front line back cs kind all wrong) = texts.at_line front line back cs kind all (line_faults cs line kind wrong)

pub one_script : (lines : List (List ℕ)) (cs ds : List Command) → IsScript lines cs → IsScript lines ds → cs ≡ ds
one_script lines cs ds x y = all_once Says fault_of says_once fine_line [] cs ds lines x y

pub one_fault : (lines : List (List ℕ)) (f g : ℕ × ℕ) → IsRefused lines f → IsRefused lines g → f ≡ g
one_fault lines f g x y = refused_once Says fault_of says_once fine_line [] lines f g (by_fault lines f x) (by_fault lines g y)

pub never_both_answers : (lines : List (List ℕ)) (cs : List Command) (f : ℕ × ℕ) → IsScript lines cs → IsRefused lines f → ⊥
never_both_answers lines cs f x y = never_both Says fault_of says_once fine_line [] cs lines f (by_fault lines f y) x

-- behind lines that say commands
answer_behind : (front lines : List (List ℕ)) (cs : List Command) → IsScript front cs → ((ds : List Command) × IsScript (front ++ lines) ds) ⊎ ((f : ℕ × ℕ) × IsRefused (front ++ lines) f)
answer_behind front [] cs all = inl (cs, rw (append-nil front) all)
answer_behind front (line ∷ lines) cs all =
    elim (says_or_faults cs line) [
      | inl x ↦ subst (λ ls. ((ds : List Command) × IsScript ls ds) ⊎ ((f : ℕ × ℕ) × IsRefused ls f)) (append_assoc front (line ∷ []) lines) (answer_behind (front ++ line ∷ []) lines x.0 (script-push front line cs x.0 all x.1))
      | inr x ↦ inr ((length front + 1, x.0), at_line front line lines cs x.0 all x.1)
    ]

pub some_answer : (lines : List (List ℕ)) → ((cs : List Command) × IsScript lines cs) ⊎ ((f : ℕ × ℕ) × IsRefused lines f)
some_answer lines = answer_behind [] lines [] refl

-- ---- what is read or refused is the answer, unless memory runs out

pub only : (lines : List (List ℕ)) (r : Result (List Command) LineError) → IfOk r (λ s. IsScript lines s) → IfErr r (λ e. IfBad e (λ f. IsRefused lines f)) → (cs : List Command) → IsScript lines cs → Answers r (Ok cs)
only lines (Ok s) found bad cs says = ap Ok (one_script lines cs s says found)
only lines (Err errors.Memory) found bad cs says = tt
only lines (Err (errors.Bad f)) found bad cs says = absurd (never_both_answers lines cs (place_of f) says bad)

pub first : (lines : List (List ℕ)) (r : Result (List Command) LineError) → IfOk r (λ s. IsScript lines s) → IfErr r (λ e. IfBad e (λ f. IsRefused lines f)) → (f : ℕ × ℕ) → IsRefused lines f → Answers r (Err f)
first lines (Ok s) found bad f wrong = absurd (never_both_answers lines s f found wrong)
first lines (Err errors.Memory) found bad f wrong = tt
first lines (Err (errors.Bad g)) found bad f wrong = ap Err (one_fault lines f (place_of g) wrong bad)
