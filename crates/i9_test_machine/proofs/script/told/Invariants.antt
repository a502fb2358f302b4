use Rattle.i9_machine.specs.InRun.{IsInRun}
use Rattle.i9_test_machine.proofs.script.told.Given as goal

abbrev pub invariant-loop-part : goal.invariant-loop-part
invariant-loop-part l = IsInRun l.run.machine l.run.plan
