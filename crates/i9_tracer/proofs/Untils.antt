-- One step more towards a stop.
use Rattle.std.proofs.Common.{◌≡◌, ℕ, Bool, true, false, List, [], ◌∷◌, map, Option, Some, None, sym, subst, ◌∙◌, arith}
use Rattle.std.proofs.lemmas.List.{append-nil}
use Rattle.std.proofs.lemmas.Option.{none-some}
use Rattle.i9_model.specs.declared.run.End.{End}
use Rattle.i9_model.specs.declared.view.View.{View}
use Rattle.i9_model.specs.PrintedText.{view_of, lines_of, record_lines, end_lines}
use Rattle.i9_model.specs.Run.{Given, state_after, Finish}
use Rattle.i9_schedule.specs.Plan.{Plan}
use Rattle.i9_course.specs.Course.{Item, Step, records_of}
use Rattle.i9_machine.specs.declared.line.Line.{Line}
use Rattle.i9_machine.specs.declared.line.Issued.{Issued}
use Rattle.i9_machine.specs.declared.line.Turn.{Turn}
use Rattle.i9_machine.specs.declared.line.Turn.TheVariants as answers
use Rattle.i9_machine.specs.declared.machine.Machine.{Machine}
use Rattle.i9_machine.specs.Line.{shown_of}
use Rattle.i9_machine.specs.InRun.{IsInRun}
use Rattle.i9_machine.specs.StandsFor.{StandsFor, Follows, IsUnderWay, DoesNext, Comes, Proceeds, AnswersAgain, FollowsUntil}
use Rattle.i9_machine.specs.Progress.{progress}
use Rattle.i9_machine.specs.Turned.{steps_on}
use Rattle.i9_machine.proofs.InRuns.{comes_in_run}
use Rattle.i9_machine.proofs.Told.{issued_counts, on_counts}
use Rattle.i9_machine.proofs.Turned.{more_lines, same_lines}
use Rattle.i9_tracer.specs.Until.{IsPassed, Passes, StopsAt, EndsFirst, StopsShort, history}

-- ---- steps

-- what a view shows, whatever the machine stands for
abbrev pub Shows : Given → Machine → View → Type 0
Shows g m view = (items : List Item) (end : Option Finish) → StandsFor g items end m → view ≡ view_of (state_after g (records_of items))

module _ (allows : View → Bool → Type 0) where
  pub none_passed : (g : Given) (h : List Item) (m : Machine) (plan : Plan) (lines : List Line) → StandsFor g h None m → Follows g h plan
      → Passes allows (history g h) m plan lines lines
  none_passed g h m plan lines stands follows = record {
    done = [];
    passed = tt;
    stands = stands;
    follows = follows;
    lines = sym (append-nil (map shown_of lines));
  }

  module _ (g : Given) (h : List Item) (m : Machine) (was : Plan) (old mid : List Line) (since : Passes allows (history g h) m was old mid)
      (before next : Machine) (plan : Plan) (new : List Line) where
    -- one more record is passed
    does_pass : (answer : Turn) → (d : DoesNext g (steps_on since.done h) answer (progress before was mid) (progress next plan new)) → IsPassed allows d.done
        → Passes allows (history g h) next plan old new
    does_pass answer d passed = record {
      done = d.done ∷ since.done;
      passed = (passed, since.passed);
      stands = d.stands;
      follows = d.follows;
      lines = more_lines old mid new (lines_of since.done) (record_lines d.done) since.lines d.lines;
    }

    -- an instruction at which the stop does not hold
    pub issued_pass : (t : Issued) (view : View) → Comes g (steps_on since.done h) (answers.Issued t) (progress before was mid) (progress next plan new)
        → Shows g next view → allows view false → Passes allows (history g h) next plan old new
    issued_pass t view d shows refused =
        let shown = shows (Step d.done ∷ steps_on since.done h) None d.stands in
        does_pass (answers.Issued t) d (λ one. subst (λ (v : View). allows v false) shown refused)

    -- one at which it does
    pub issued_stops : (t : Issued) (view : View) → Comes g (steps_on since.done h) (answers.Issued t) (progress before was mid) (progress next plan new)
        → Shows g next view → allows view true → StopsAt allows (history g h) t next plan old new
    issued_stops t view d shows holds =
        let shown = shows (Step d.done ∷ steps_on since.done h) None d.stands in
        record {
          done = since.done;
          last = d.done;
          passed = since.passed;
          counts = issued_counts d.done.kind d.done.before t d.tells;
          held = subst (λ (v : View). allows v true) shown holds;
          tells = d.tells;
          turn = d.turn ∙ sym d.now;
          stands = d.stands;
          follows = d.follows;
          lines = more_lines old mid new (lines_of since.done) (record_lines d.done) since.lines d.lines;
        }

    -- an event or an entry
    pub on_pass : Comes g (steps_on since.done h) answers.On (progress before was mid) (progress next plan new) → Passes allows (history g h) next plan old new
    on_pass d = does_pass answers.On d (λ one. let none = on_counts d.done.kind d.done.before d.tells in absurd (omega (arith, none, one)))

    -- the end
    pub ends_first : (e : End) → Comes g (steps_on since.done h) (answers.End e) (progress before was mid) (progress next plan new) → EndsFirst allows (history g h) e next plan old new
    ends_first e d = record {
      done = since.done;
      finish = d.finish;
      answers = d.answers;
      passed = since.passed;
      is_end = d.is_end;
      turn = d.turn ∙ sym d.now;
      stands = d.stands;
      follows = d.follows;
      lines = more_lines old mid new (lines_of since.done) (end_lines (state_after g (records_of (steps_on since.done h))) d.finish) since.lines d.lines;
    }

    -- want of memory
    pub stops_short : Comes g (steps_on since.done h) answers.Memory (progress before was mid) (progress next plan new) → StopsShort allows (history g h) next plan old new
    stops_short d = record {
      since = record {
        done = since.done;
        passed = since.passed;
        stands = d.stands;
        follows = d.follows;
        lines = same_lines old mid new (lines_of since.done) since.lines d.lines;
      };
      needed = d.needed;
    }

-- ---- the machine stays in its run

pub under_way : (m : Machine) (plan : Plan) → IsInRun m plan → m.ended ≡ None → IsUnderWay m plan
under_way m plan r none = by_end r.end r.stands r.follows
  where
    by_end : (end : Option Finish) → StandsFor r.given r.items end m → FollowsUntil r.given r.items end plan → IsUnderWay m plan
    by_end None stands follows = record { given = r.given; items = r.items; stands = stands; follows = follows }
    by_end (Some f) stands follows = absurd (none-some f.end (sym none ∙ stands.ended))

-- where an end was answered, a step answers it again
pub not_again : (f : Finish) (answer : Turn) (before m : Machine) (old new : List Line)
    → ((e : End) → answer ≡ answers.End e → ⊥) → AnswersAgain f answer before m old new → ⊥
not_again f answer before m old new other again = other f.end again.answers

-- where it answers none, the machine stays in its run
pub stays_in_run : (before m : Machine) (was plan : Plan) (spare : ℕ) (old new : List Line) (answer : Turn) → IsInRun before was
    → ((e : End) → answer ≡ answers.End e → ⊥)
    → ((g : Given) (h : List Item) → StandsFor g h None before → Follows g h was → Proceeds g h answer spare (progress before was old) (progress m plan new))
    → ((g : Given) (h : List Item) (f : Finish) → StandsFor g h (Some f) before → AnswersAgain f answer before m old new × (plan ≡ was))
    → IsInRun m plan
stays_in_run before m was plan spare old new answer r other next again = by_end r.end r.stands r.follows
  where
    by_end : (end : Option Finish) → StandsFor r.given r.items end before → FollowsUntil r.given r.items end was → IsInRun m plan
    by_end None stands follows =
        let p = next r.given r.items stands follows in
        comes_in_run r.given r.items answer (progress p.mid was old) (progress m plan new) p.comes
    by_end (Some f) stands follows = absurd (not_again f answer before m old new other (again r.given r.items f stands).0)

pub still_stands : (g : Given) (h : List Item) (f : Finish) (before now : Machine) → now ≡ before → StandsFor g h (Some f) before
    → StandsFor g h (Some f) now
still_stands g h f before now same stands = subst (StandsFor g h (Some f)) (sym same) stands

-- an end that was answered is answered again, and nothing changes
pub again_same : (f : Finish) (answer : Turn) (before now m : Machine) (old mid new : List Line) (was mid_plan plan : Plan)
    → now ≡ before → mid ≡ old → mid_plan ≡ was → AnswersAgain f answer now m mid new × (plan ≡ mid_plan)
    → AnswersAgain f answer before m old new × (plan ≡ was)
again_same f answer before now m old mid new was mid_plan plan same lines plans again =
    (record { answers = again.0.answers; same = again.0.same ∙ same; lines = again.0.lines ∙ lines }, again.1 ∙ plans)
