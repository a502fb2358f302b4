use Rattle.std.proofs.Common.{◌+◌, List, None}
use Rattle.i9_model.specs.Given.{Given}
use Rattle.i9_course.specs.Course.{Item}
use Rattle.i9_machine.specs.StandsFor.{StandsFor, Follows}
use Rattle.i9_machine.specs.Step.{steps_left}
use Rattle.i9_lines.specs.Print.{account}
use Rattle.i9_debug.proofs.Turns.{Turned}
use Rattle.i9_debug.proofs.sessions.run_turns.Given as goal

abbrev pub invariant-loop-turn : goal.invariant-loop-turn
invariant-loop-turn g l = (what : Given) (h : List Item) → StandsFor what h None l.fn.m → Follows what h l.fn.plan
    → Turned (account g.K.Sink.told g.K.Sink.faults g.K.Sink.writes g.K.Sink.sure g.K.Sink.pieces) what h
    (l.fn.m.pipeline.turn + l.fn.count) l.fn.out l.out l.m l.plan

abbrev pub decreases-loop-turn : goal.decreases-loop-turn
decreases-loop-turn g l = steps_left l.m l.plan
