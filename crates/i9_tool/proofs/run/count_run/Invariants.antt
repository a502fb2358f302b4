use Rattle.std.proofs.Common.{List, None}
use Rattle.i9_model.specs.Image.{pairs_of}
use Rattle.i9_model.specs.Given.{given}
use Rattle.i9_model.specs.Run.{Record}
use Rattle.i9_course.specs.PipelinedRun.{steps}
use Rattle.i9_machine.specs.StandsFor.{StandsFor, Follows}
use Rattle.i9_machine.specs.Step.{steps_left}
use Rattle.i9_tool.proofs.run.count_run.Given as goal

abbrev pub invariant-loop-end : goal.invariant-loop-end
invariant-loop-end l =
    (rs : List Record) × StandsFor (given (pairs_of l.image) l.fn.plan.events l.limit l.fn.sets) (steps rs) None l.machine
    × Follows (given (pairs_of l.image) l.fn.plan.events l.limit l.fn.sets) (steps rs) l.plan

abbrev pub decreases-loop-end : goal.decreases-loop-end
decreases-loop-end l = steps_left l.machine l.plan
