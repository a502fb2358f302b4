use Rattle.std.proofs.Common.{[], None}
use Rattle.i9_model.specs.Given.{Given}
use Rattle.i9_machine.specs.StandsFor.{StandsFor, Follows, IsUnderWay}
use Rattle.i9_machine.specs.Step.{steps_left}
use Rattle.i9_lines.specs.Print.{account}
use Rattle.i9_tool.proofs.Running.{Traced}
use Rattle.i9_tool.proofs.run.run_machine.Given as goal

abbrev pub invariant-loop-lines : goal.invariant-loop-lines
invariant-loop-lines g l = record {
  under_way : IsUnderWay l.m l.plan;
  traced : (what : Given) → StandsFor what [] None l.fn.m → Follows what [] l.fn.plan
      → Traced (g.F.AddressTest.allows l.f) what (account g.K.Sink.told g.K.Sink.faults g.K.Sink.writes g.K.Sink.sure g.K.Sink.pieces) l.fn.out l.out l.m l.plan;
}

abbrev pub decreases-loop-lines : goal.decreases-loop-lines
decreases-loop-lines g l = steps_left l.m l.plan
