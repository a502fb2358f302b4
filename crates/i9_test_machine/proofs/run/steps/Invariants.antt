use Rattle.i9_machine.specs.InRun.{IsInRun}
use Rattle.i9_test_machine.proofs.run.steps.Given as goal

abbrev pub invariant-loop : goal.invariant-loop
invariant-loop l = IsInRun l.run.machine l.run.plan
