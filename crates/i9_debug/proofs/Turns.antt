-- Steps below a turn, which are run and printed.
use Rattle.std.proofs.Common.{◌≡◌, ℕ, ◌<◌, ◌≤◌, max, List, [], ◌∷◌, flat_map, Some, None, refl, arith}
use Rattle.i9_model.specs.Late.{turns as late_turns}
use Rattle.i9_model.specs.PrintedText.{text_of, lines_of}
use Rattle.i9_model.specs.Run.{Given, Record}
use Rattle.i9_model.specs.Turns.{last_issue}
use Rattle.i9_schedule.specs.Plan.{Plan}
use Rattle.i9_course.specs.Course.{Item, course}
use Rattle.i9_machine.specs.declared.line.Line.{Line}
use Rattle.i9_machine.specs.declared.line.Turn.{Turn}
use Rattle.i9_machine.specs.declared.line.Turn.TheVariants as answers
use Rattle.i9_machine.specs.declared.machine.Machine.{Machine}
use Rattle.i9_machine.specs.StandsFor.{StandsFor, Comes, PassesTo, ProceedsUntil}
use Rattle.i9_machine.specs.Progress.{Progress, progress}
use Rattle.i9_machine.specs.Turned.{steps_on}
use Rattle.i9_lines.specs.declared.print.Printed.{Printed}
use Rattle.i9_lines.specs.declared.print.Printed.TheVariants.{Done}
use Rattle.i9_lines.specs.Print.{Account, Prints, line_text, IsCut, output}
use Rattle.i9_debug.specs.Session.{at, TurnsTo, turns_pass, turns_end}
use Rattle.i9_debug.specs.Driven.{Drives, AtMostOne, CutInRun, target}
use Rattle.i9_debug.proofs.Places.{GoesOn, turns_after, turns_lead}
use Rattle.i9_debug.proofs.Stepwise.{SoFar, stopped_at}

-- what comes next is done at the machine's turn
same_turn : (g : Given) (h : List Item) (turn : Turn) (before after : Progress) → Comes g h turn before after
    → after.machine.pipeline.turn ≡ before.machine.pipeline.turn
same_turn g h answers.On before after d = d.turn
same_turn g h (answers.Issued t) before after d = d.turn
same_turn g h (answers.End e) before after d = d.turn
same_turn g h answers.Memory before after d = d.turn

module _ {K : Type 0} (k : Account K) (g : Given) (h : List Item) (u : ℕ) where
  -- Records were done below a turn, and their text was printed.
  abbrev pub Turned : K → K → Machine → Plan → Type 0
  Turned a b m plan = SoFar k g h (λ rs now. now.pipeline.turn < u) a b m plan

  -- nothing is left below the turn
  pub turned_whole : (a b : K) (before m : Machine) (was plan : Plan) (ls : List Line) (s : Turned a b before was)
      → PassesTo g (steps_on s.done h) u (progress before was []) (progress m plan ls)
      → Drives (TurnsTo g h u) (CutInRun g AtMostOne h) Done g (output k a b) (target m plan)
  turned_whole a b before m was plan ls s d =
      let low : before.pipeline.turn < u = s.kept in
      let turn : m.pipeline.turn ≡ max before.pipeline.turn u = d.turn in
      let begun : last_issue (late_turns (course g (steps_on s.done h)).late) ≤ before.pipeline.turn = s.stands.flow.begun in
      record {
        text = text_of (lines_of s.done);
        last = at (steps_on s.done h) u;
        is_text = turns_pass s.done (record { past = d.stands.past; issued = omega (arith, begun, low); later = d.later });
        prints = s.prints;
        place = at (steps_on s.done h) u;
        stands = record {
          stands = d.stands;
          turn = omega (arith, turn, low);
          follows = d.follows;
          events = d.follows.events;
        };
        whole = refl;
        stopped = tt;
      }

  module _ (a b c : K) (before m : Machine) (was plan : Plan) (ls : List Line) (s : Turned a b before was)
      (turn : Turn) (spare : ℕ)
      (came : ProceedsUntil g (steps_on s.done h) (Some u) (Some turn) spare (progress before was []) (progress m plan ls)) where
    pub still_low : m.pipeline.turn < u
    still_low =
        let same = same_turn g (steps_on s.done h) turn _ (progress m plan ls) came.1.comes in
        let now = came.1.now in
        let below = came.0 in
        omega (arith, same, now, below)

    on : (rs : List Record) → StandsFor g (steps_on rs h) None m → GoesOn (TurnsTo g h u) (text_of (lines_of rs))
    on rs stands =
        let low = still_low in
        let begun = stands.flow.begun in
        let rest = turns_lead g (steps_on rs h) u (omega (arith, begun, low)) stands.past in
        (rest.0, rest.1, turns_after g h rs u rest.0 rest.1 rest.2)

    -- printing stopped in the lines of a step, or memory was refused for it
    pub turn_stopped : (answer : Printed) → IsCut answer → Prints answer k b c (flat_map line_text ls)
        → Drives (TurnsTo g h u) (CutInRun g AtMostOne h) answer g (output k a c) (target m plan)
    turn_stopped answer cut p =
        stopped_at k g h _ a b c before came.1.mid m was plan ls s (TurnsTo g h u) answer cut p turn came.1.comes
        (λ f e. turns_end s.done f e came.0) (λ r. on (r ∷ s.done)) (on s.done)
