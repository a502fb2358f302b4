use Rattle.std.proofs.Common.{◌≤◌, IfSome}
use Rattle.std.specs.List.{AllByRecursion}
use Rattle.i9_model.specs.Given.{Given}
use Rattle.i9_back.specs.Trail.{IsKept}
use Rattle.i9_back.proofs.trail.nearest_of.Given as goal

abbrev pub invariant-loop-k : goal.invariant-loop-k
invariant-loop-k l = (g : Given) → AllByRecursion (IsKept g) l.kept → IfSome l.best (λ k. IsKept g k.now × (k.now.count ≤ l.c))
