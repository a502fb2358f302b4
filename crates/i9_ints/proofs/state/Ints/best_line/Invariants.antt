use Rattle.i9_ints.specs.Best.{IsBestLine}
use Rattle.i9_ints.specs.Ints.{interrupts_of}
use Rattle.i9_ints.proofs.state.Ints.best_line.Given as goal

abbrev pub invariant-loop-k : goal.invariant-loop-k
invariant-loop-k l = IsBestLine (interrupts_of l.self) l.pc l.k l.best
