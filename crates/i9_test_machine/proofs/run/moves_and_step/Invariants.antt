use Rattle.i9_machine.specs.InRun.{IsInRun}
use Rattle.i9_test_machine.proofs.run.moves_and_step.Given as goal

abbrev pub invariant-loop-moves : goal.invariant-loop-moves
invariant-loop-moves l = IsInRun l.run.machine l.run.plan
