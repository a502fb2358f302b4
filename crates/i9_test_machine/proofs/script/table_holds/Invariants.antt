use Rattle.i9_machine.specs.InRun.{IsInRun}
use Rattle.i9_test_machine.proofs.script.table_holds.Given as goal

abbrev pub invariant-loop-row : goal.invariant-loop-row
invariant-loop-row g l = IsInRun l.run.machine l.run.plan
