use Rattle.i9_processor.specs.State.{IsDrained}
use Rattle.i9_test_state.proofs.plan_state.ready.Given as goal

abbrev pub invariant-loop-k : goal.invariant-loop-k
invariant-loop-k l = IsDrained l.p
