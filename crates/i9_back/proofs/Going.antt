-- A machine that goes on from an earlier state to a later one.
use Rattle.std.proofs.Common.{◌≡◌, ℕ, ◌+◌, ◌<◌, ◌≤◌, List, [], ◌∷◌, Option, None, refl, sym, ap, ◌∙◌, subst, arith}
use Rattle.i9_model.specs.declared.event.Timed.{Timed}
use Rattle.i9_model.specs.declared.run.End.{End}
use Rattle.i9_model.specs.Given.{given}
use Rattle.i9_model.specs.ScheduleText.{IsPlan}
use Rattle.i9_model.specs.Run.{Given, Record, state_after}
use Rattle.i9_schedule.specs.Plan.{Plan}
use Rattle.i9_course.specs.Course.{ahead, issue_of_next}
use Rattle.i9_course.specs.PipelinedRun.{steps, IsPipelinedPast}
use Rattle.i9_course.proofs.Ahead.{ahead_precise}
use Rattle.i9_machine.specs.declared.line.Line.{Line}
use Rattle.i9_machine.specs.declared.line.Issued.{Issued}
use Rattle.i9_machine.specs.declared.line.Turn.{Turn}
use Rattle.i9_machine.specs.declared.line.Turn.TheVariants as answers
use Rattle.i9_machine.specs.declared.machine.Machine.{Machine}
use Rattle.i9_machine.specs.StandsFor.{StandsFor, Follows, IsUnderWay, Comes}
use Rattle.i9_machine.specs.Progress.{progress}
use Rattle.i9_machine.proofs.Told.{issued_counts, on_counts}
use Rattle.i9_back.specs.Earlier.{EndsAt, IsEarlier, HasInstructions, issue_of}
use Rattle.i9_back.specs.Stands.{StandsEarlier}
use Rattle.i9_back.proofs.Earlier.{record_after, earlier_count, ended_whole}

-- a record issues at the turn of what lies ahead of it
pub record_issues : (g : Given) (rs : List Record) (r : Record) → IsPipelinedPast g (r ∷ rs) → issue_of g (r ∷ rs) ≡ (ahead g (steps rs)).turn
record_issues g rs r late = sym (ahead_precise g (steps rs) late.1 ∙ ap (issue_of_next g (steps rs)) late.2)

-- These records, with so many instructions, were done on the way to the state after more; with as many it is that state.
pub record GoingAt (g : Given) (records : List Record) (done to : ℕ) (m : Machine) (plan : Plan) : Type 0 where
  pub stands : StandsFor g (steps records) None m
  pub follows : Follows g (steps records) plan
  pub count : (state_after g records).count ≡ done
  pub within : done ≤ to
  pub there : done ≡ to → EndsAt to records × (m.pipeline.turn ≡ issue_of g records)

abbrev pub Going : Given → ℕ → ℕ → Machine → Plan → Type 0
Going g done to m plan = (rs : List Record) × GoingAt g rs done to m plan

-- a new machine stands for the start of its run
abbrev pub new_stands : (g : Given) (m : Machine) (plan : Plan) → StandsFor g [] None m → m.pipeline.turn ≡ 1 → plan.events ≡ g.plan → plan.place ≡ 0
    → StandsEarlier g 0 m plan
new_stands g m plan stands turn events place = record {
  records = [];
  earlier = record { past = tt; last = refl };
  turn = turn;
  stands = stands;
  follows = record { events = events; place = place };
}

-- so does one with a schedule that goes back to its first event
abbrev pub rewound_stands : (pairs : List (ℕ × ℕ)) (length : ℕ) (sets : Option ℕ) (m : Machine) (old plan : Plan) → ((events : List Timed) → IsPlan events → StandsFor (given pairs events length sets) [] None m)
    → m.pipeline.turn ≡ 1 → plan ≡ record old { place = 0 } → IsPlan plan.events → StandsEarlier (given pairs old.events length sets) 0 m plan
rewound_stands pairs length sets m old plan stands turn first is =
    let events = ap (λ (p : Plan). p.events) first in
    new_stands (given pairs old.events length sets) m plan (stands old.events (subst IsPlan events is)) turn events (ap (λ (p : Plan). p.place) first)

module _ (g : Given) where
  pub going_begins : (from to : ℕ) (m : Machine) (plan : Plan) → from ≤ to → (s : StandsEarlier g from m plan) → GoingAt g s.records from to m plan
  going_begins from to m plan le s = grind (arith, earlier_count)

  module _ (rs : List Record) (done to : ℕ) (m : Machine) (plan : Plan) (s : GoingAt g rs done to m plan) where
    pub earlier_there : to ≤ done → IsEarlier g to rs
    earlier_there le = grind arith

    pub going_there : to ≤ done → StandsEarlier g to m plan
    going_there le = grind (arith, earlier_there)

    pub under_way : IsUnderWay m plan
    under_way = record { given = g; items = steps rs; stands = s.stands; follows = s.follows }

  module _ (rs : List Record) (done to : ℕ) (was : Machine) (old_plan : Plan) (s : GoingAt g rs done to was old_plan)
      (before m : Machine) (plan : Plan) (old new : List Line) where
    -- an event or an entry
    pub on_goes : done < to → (d : Comes g (steps rs) answers.On (progress before old_plan old) (progress m plan new)) → GoingAt g (d.done ∷ rs) done to m plan
    on_goes below d = grind (arith, on_counts, record_after)

    -- an instruction
    pub issued_goes : done < to → (t : Issued) → (d : Comes g (steps rs) (answers.Issued t) (progress before old_plan old) (progress m plan new)) → GoingAt g (d.done ∷ rs) (done + 1) to m plan
    issued_goes below t d = grind (arith, issued_counts, record_after, record_issues)

    -- no end comes before
    pub no_end : done < to → HasInstructions g to → (f : End) → Comes g (steps rs) (answers.End f) (progress before old_plan old) (progress m plan new) → ⊥
    no_end below has f d =
        let reached = ended_whole g rs d.finish to s.stands.past d.is_end has in
        let so_far = s.count in
        omega (arith, below, reached, so_far)

    -- the events of the schedule stay
    pub same_events : (answer : Turn) → Comes g (steps rs) answer (progress before old_plan old) (progress m plan new) → plan.events ≡ old_plan.events
    same_events answer d = grind arith
