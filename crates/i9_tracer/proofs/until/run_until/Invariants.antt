use Rattle.std.proofs.Common.{◌≡◌, List, Some, None}
use Rattle.i9_model.specs.Given.{Given}
use Rattle.i9_model.specs.Run.{Finish}
use Rattle.i9_course.specs.Course.{Item}
use Rattle.i9_machine.specs.InRun.{IsInRun}
use Rattle.i9_machine.specs.StandsFor.{StandsFor, Follows}
use Rattle.i9_machine.specs.Step.{steps_left}
use Rattle.i9_tracer.specs.Until.{Passes, history}
use Rattle.i9_tracer.proofs.until.run_until.Given as goal

abbrev pub invariant-steps : goal.invariant-steps
invariant-steps g l = record {
  in_run : IsInRun l.m l.plan;
  passes : (what : Given) (h : List Item) → StandsFor what h None l.fn.m → Follows what h l.fn.plan
      → Passes (g.F.ViewTest.allows l.s) (history what h) l.m l.plan l.fn.out.items l.out.items;
  same : (what : Given) (h : List Item) (f : Finish) → StandsFor what h (Some f) l.fn.m
      → (l.m ≡ l.fn.m) × (l.out.items ≡ l.fn.out.items) × (l.plan ≡ l.fn.plan);
}

abbrev pub decreases-steps : goal.decreases-steps
decreases-steps g l = steps_left l.m l.plan
