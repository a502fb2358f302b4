-- Steps that are run and printed until a stop holds, or until an instruction address.
use Rattle.std.proofs.Common.{◌≡◌, ℕ, Bool, true, false, nat_eq, List, [], ◌∷◌, flat_map, drop, None, sym, ◌∙◌, inl, inr, ◌⊎◌, arith}
use Rattle.std.proofs.lemmas.Bool.{cases_Bool}
use Rattle.std.specs.List.{AllByRecursion}
use Rattle.i9_model.specs.declared.view.View.{View}
use Rattle.i9_model.specs.PrintedText.{text_of, lines_of, record_lines}
use Rattle.i9_model.specs.Run.{Given, Record}
use Rattle.i9_schedule.specs.Plan.{Plan}
use Rattle.i9_course.specs.Course.{Item, Step, IsCourse}
use Rattle.i9_machine.specs.declared.line.Line.{Line}
use Rattle.i9_machine.specs.declared.line.Issued.{Issued}
use Rattle.i9_machine.specs.declared.line.Turn.{Turn}
use Rattle.i9_machine.specs.declared.line.Turn.TheVariants as answers
use Rattle.i9_machine.specs.declared.machine.Machine.{Machine}
use Rattle.i9_machine.specs.StandsFor.{Comes}
use Rattle.i9_machine.specs.Progress.{progress}
use Rattle.i9_machine.specs.Turned.{steps_on}
use Rattle.i9_machine.proofs.Told.{issued_counts, on_counts}
use Rattle.i9_tracer.specs.Until.{IsPassed}
use Rattle.i9_tracer.proofs.Untils.{Shows}
use Rattle.i9_lines.specs.declared.print.Printed.{Printed}
use Rattle.i9_lines.specs.declared.print.Printed.TheVariants.{Done}
use Rattle.i9_lines.specs.Print.{Account, Prints, line_text, IsCut, output}
use Rattle.i9_lines.proofs.TextLines.{IsClosed}
use Rattle.i9_lines.proofs.ClosedLines.{closed_text}
use Rattle.i9_debug.specs.Session.{Place, at, turn_ahead, comes_to, NoneComesTo, ComesTo, comes, none_comes}
use Rattle.i9_debug.specs.Driven.{Drives, AtMostOne, CutInRun, StopsBy, stops, never_stops, goes_on, target}
use Rattle.i9_debug.proofs.Places.{GoesOn, whole_already, comes_after, address_leads, comes_as_told, comes_not}
use Rattle.i9_debug.proofs.Stepwise.{SoFar, one_more, there, stopped_at, drives_by}

module _ {K : Type 0} (k : Account K) (g : Given) (h : List Item) (allows : View → Bool → Type 0) where
  -- Records were done at none of which the stop held, and their text was printed.
  abbrev pub Sought : K → K → Machine → Plan → Type 0
  Sought a b m plan = SoFar k g h (λ rs now. AllByRecursion (IsPassed allows) rs) a b m plan

  -- those before the newest are passed
  older_passed : (rs : List Record) → AllByRecursion (IsPassed allows) rs → AllByRecursion (IsPassed allows) (drop 1 rs)
  older_passed [] passed = tt
  older_passed (r ∷ rs) passed = passed.1

  stopped_there : (answer : Printed) → IsCut answer → (rs : List Record) → IsCourse g (steps_on rs h)
      → AllByRecursion (IsPassed allows) (drop 1 rs) → GoesOn (StopsBy answer allows g h) (text_of (lines_of rs))
  stopped_there answer cut rs past passed =
      whole_already (StopsBy answer allows g h) (text_of (lines_of rs)) (at h 0) (goes_on rs (at h 0) cut past passed)

  module _ (a b c : K) (old mid next : Machine) (was plan : Plan) (ls : List Line) (s : Sought a b old was) where
    abbrev Came : Turn → Type 0
    Came turn = Comes g (steps_on s.done h) turn (progress mid was []) (progress next plan ls)

    -- the run goes on
    pub on_seeks : Came answers.On → Prints Done k b c (flat_map line_text ls) → Sought a c next plan
    on_seeks d p =
        let none = on_counts d.done.kind d.done.before d.tells in
        one_more k g h _ a b c old mid next was plan ls s answers.On d (λ one. absurd (omega (arith, none, one)), s.kept) p

    pub issued_seeks : (t : Issued) (view : View) → Came (answers.Issued t) → Prints Done k b c (flat_map line_text ls)
        → Shows g next view → allows view false → Sought a c next plan
    issued_seeks t view d p shows refused =
        let shown = shows (Step d.done ∷ steps_on s.done h) None d.stands in
        one_more k g h _ a b c old mid next was plan ls s (answers.Issued t) d (λ one. rw shown at refused, s.kept) p

    -- the stop holds
    pub issued_holds : (t : Issued) (view : View) → Came (answers.Issued t) → Prints Done k b c (flat_map line_text ls)
        → Shows g next view → allows view true
        → Drives (StopsBy Done allows g h) (CutInRun g AtMostOne h) Done g (output k a c) (target next plan)
    issued_holds t view d p shows held =
        let shown = shows (Step d.done ∷ steps_on s.done h) None d.stands in
        there k g h _ a b c old mid next was plan ls s (StopsBy Done allows g h) (record_lines d.done)
        (at (Step d.done ∷ steps_on s.done h) (turn_ahead g (steps_on s.done h)))
        (record { stands = d.stands; turn = d.turn ∙ sym d.now; follows = d.follows; events = d.follows.events })
        (stops s.done d.done d.stands.past s.kept (issued_counts d.done.kind d.done.before t d.tells) (rw shown at held))
        d.lines p

    -- printing stopped in the lines of a step, or memory was refused for it
    pub seek_stopped : (answer : Printed) (turn : Turn) → IsCut answer → Came turn
        → Prints answer k b c (flat_map line_text ls)
        → Drives (StopsBy answer allows g h) (CutInRun g AtMostOne h) answer g (output k a c) (target next plan)
    seek_stopped answer turn cut d p =
        stopped_at k g h _ a b c old mid next was plan ls s (StopsBy answer allows g h) answer cut p turn d
        (λ f e. never_stops s.done f e s.kept)
        (λ r stands. stopped_there answer cut (r ∷ s.done) stands.past s.kept)
        (λ stands. stopped_there answer cut s.done stands.past (older_passed s.done s.kept))

-- ---- a stop at an instruction address

module _ (allows : View → Bool → Type 0) (address : ℕ) (agree : (v : View) (b : Bool) → allows v b → b ≡ nat_eq v.ip address) where
  none_come : (rs : List Record) → AllByRecursion (IsPassed allows) rs → NoneComesTo address rs
  none_come [] passed = tt
  none_come (r ∷ rs) passed = (comes_not allows address agree r passed.0, none_come rs passed.1)

  module _ {K : Type 0} (k : Account K) (g : Given) (h : List Item) (answer : Printed) where
    -- where printing stopped, the text may go on to a whole one
    comes_by : (x : List ℕ) (q : Place) → StopsBy answer allows g h x q
        → ComesTo g h address x q ⊎ (IsCut answer × IsClosed x × GoesOn (ComesTo g h address) x)
    comes_by _ _ (stops rs r past passed counts held) =
        inl (comes rs r past (none_come rs passed) (comes_as_told allows address agree r true counts held))
    comes_by _ _ (never_stops rs f e passed) = inl (none_comes rs f e (none_come rs passed))
    comes_by _ _ (goes_on [] q cut past passed) = inr (cut, closed_text [], address_leads g h address past)
    comes_by _ _ (goes_on (r ∷ rs) q cut past passed) = inr (
      cut,
      closed_text _,
      elim (cases_Bool (comes_to address r)) [
        | inl there ↦ whole_already (ComesTo g h address) _ _ (comes rs r past (none_come rs passed) there)
        | inr other ↦
            let on = address_leads g (steps_on (r ∷ rs) h) address past in
            (on.0, on.1, comes_after g h (r ∷ rs) address on.0 on.1 (other, none_come rs passed) on.2)
      ],
    )

    pub arrives : (a c : K) (m : Machine) (plan : Plan)
        → Drives (StopsBy answer allows g h) (CutInRun g AtMostOne h) answer g (output k a c) (target m plan)
        → Drives (ComesTo g h address) (CutInRun g AtMostOne h) answer g (output k a c) (target m plan)
    arrives a c m plan d =
        drives_by k g (StopsBy answer allows g h) (ComesTo g h address) _ _ answer a c m plan (λ x y q cut. cut) comes_by d
