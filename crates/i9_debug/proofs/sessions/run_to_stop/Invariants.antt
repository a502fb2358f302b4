use Rattle.std.proofs.Common.{List, None}
use Rattle.i9_model.specs.Given.{Given}
use Rattle.i9_course.specs.Course.{Item}
use Rattle.i9_machine.specs.StandsFor.{StandsFor, Follows}
use Rattle.i9_machine.specs.Step.{steps_left}
use Rattle.i9_lines.specs.Print.{account}
use Rattle.i9_debug.proofs.Stops.{Sought}
use Rattle.i9_debug.proofs.sessions.run_to_stop.Given as goal

abbrev pub invariant-loop-lines : goal.invariant-loop-lines
invariant-loop-lines g l = (what : Given) (h : List Item) → StandsFor what h None l.fn.m → Follows what h l.fn.plan
    → Sought (account g.K.Sink.told g.K.Sink.faults g.K.Sink.writes g.K.Sink.sure g.K.Sink.pieces) what h
    (g.F.ViewTest.allows l.s) l.fn.out l.out l.m l.plan

abbrev pub decreases-loop-lines : goal.decreases-loop-lines
decreases-loop-lines g l = steps_left l.m l.plan
