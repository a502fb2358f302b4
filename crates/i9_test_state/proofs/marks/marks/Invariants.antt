use Rattle.i9_processor.specs.State.{IsDrained}
use Rattle.i9_test_state.proofs.marks.marks.Given as goal

abbrev pub invariant-loop-r : goal.invariant-loop-r
invariant-loop-r l = IsDrained l.p
