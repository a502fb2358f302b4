-- A machine stands for a run behind each step, and behind each turn.
use Rattle.std.proofs.Common.{◌≡◌, List, ◌∷◌, Option, None, Some, sym, subst, inl, inr}
use Rattle.i9_model.specs.Run.{Given, Finish}
use Rattle.i9_schedule.specs.Plan.{Plan}
use Rattle.i9_course.specs.Course.{Item, Step}
use Rattle.i9_machine.specs.declared.line.Line.{Line}
use Rattle.i9_machine.specs.declared.line.Turn.{Turn}
use Rattle.i9_machine.specs.declared.line.Turn.TheVariants as turns
use Rattle.i9_machine.specs.declared.machine.Machine.{Machine}
use Rattle.i9_machine.specs.InRun.{IsInRun}
use Rattle.i9_machine.specs.StandsFor.{StandsFor, Follows, FollowsUntil, Comes, Advances, AnswersAgain}
use Rattle.i9_machine.specs.Turned.{steps_on, Turns}
use Rattle.i9_machine.specs.Progress.{Progress}

-- what came next was done
pub comes_in_run : (g : Given) (h : List Item) (answer : Turn) (before after : Progress) → Comes g h answer before after
    → IsInRun after.machine after.plan
comes_in_run g h (turns.End e) before after d =
    record { given = g; items = h; end = Some d.finish; stands = d.stands; follows = tt }
comes_in_run g h turns.Memory before after d =
    record { given = g; items = h; end = None; stands = d.stands; follows = d.follows }
comes_in_run g h _ before after d =
    record { given = g; items = Step d.done ∷ h; end = None; stands = d.stands; follows = d.follows }

-- or the turn moved
pub advances_in_run : (g : Given) (h : List Item) (answer : Turn) (before after : Progress)
    → Advances g h answer before after → IsInRun after.machine after.plan
advances_in_run g h turns.On before after (inl w) =
    record { given = g; items = h; end = None; stands = w.stands; follows = w.follows }
advances_in_run g h turns.On before after (inr d) = comes_in_run g h turns.On before after d
advances_in_run g h answer before after d = comes_in_run g h answer before after d

-- a whole turn
pub turns_in_run : (g : Given) (h : List Item) (answer : Turn) (before after : Progress) → Turns g h answer before after
    → IsInRun after.machine after.plan
turns_in_run g h turns.On before after d =
    record { given = g; items = steps_on d.done h; end = None; stands = d.stands; follows = d.follows }
turns_in_run g h (turns.Issued t) before after d = absurd d
turns_in_run g h (turns.End e) before after d =
    record { given = g; items = steps_on d.done h; end = Some d.finish; stands = d.stands; follows = tt }
turns_in_run g h turns.Memory before after d =
    let since = d.since in
    record { given = g; items = steps_on since.done h; end = None; stands = since.stands; follows = since.follows }

-- whether an end was answered before or none
pub behind_in_run : (before m : Machine) (answer : Turn) (was plan : Plan) (old new : List Line)
    → ((g : Given) (h : List Item) → StandsFor g h None before → Follows g h was → IsInRun m plan)
    → ((g : Given) (h : List Item) (f : Finish) → StandsFor g h (Some f) before
    → AnswersAgain f answer before m old new × (plan ≡ was))
    → IsInRun before was → IsInRun m plan
behind_in_run before m answer was plan old new next again r = by_end r.end r.stands r.follows
  where
    by_end : (end : Option Finish) → StandsFor r.given r.items end before → FollowsUntil r.given r.items end was
        → IsInRun m plan
    by_end None stands follows = next r.given r.items stands follows
    by_end (Some f) stands follows =
        let a = again r.given r.items f stands in
        record {
          given = r.given;
          items = r.items;
          end = Some f;
          stands = subst (StandsFor r.given r.items (Some f)) (sym a.0.same) stands;
          follows = tt;
        }
