use Rattle.std.proofs.Common.{List, None}
use Rattle.i9_model.specs.Run.{Given}
use Rattle.i9_course.specs.Course.{Item}
use Rattle.i9_machine.specs.StandsFor.{StandsFor, Follows, IsUnderWay}
use Rattle.i9_machine.specs.Progress.{progress}
use Rattle.i9_machine.specs.Step.{steps_left}
use Rattle.i9_machine.proofs.Turned.{SinceOnly}
use Rattle.i9_machine.proofs.machine.Machine.turn_on.Given as goal

abbrev pub invariant-steps : goal.invariant-steps
invariant-steps l =
    IsUnderWay l.self l.plan
    × ((g : Given) (h : List Item) → StandsFor g h None l.fn.self → Follows g h l.fn.plan → SinceOnly g h
    (progress l.fn.self l.fn.plan l.fn.out.items) (progress l.self l.plan l.out.items))

abbrev pub decreases-steps : goal.decreases-steps
decreases-steps l = steps_left l.self l.plan
