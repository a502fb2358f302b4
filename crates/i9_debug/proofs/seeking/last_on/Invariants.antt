use Rattle.std.proofs.Common.{◌≡◌, ◌≤◌}
use Rattle.i9_back.specs.Trail.{IsTrail, FoundBetween}
use Rattle.i9_debug.specs.Driven.{given_of}
use Rattle.i9_debug.specs.Last.{HeldLast}
use Rattle.i9_debug.proofs.seeking.last_on.Given as goal

abbrev pub invariant-strides : goal.invariant-strides
invariant-strides g l = record {
  found : FoundBetween (HeldLast (g.F.ViewTest.allows l.s) l.n) (given_of l.fn.image l.fn.sets l.fn.plan) l.from l.n l.found;
  within : l.from ≤ l.n;
  trail : IsTrail (given_of l.fn.image l.fn.sets l.fn.plan) l.trail;
  events : l.plan.events ≡ l.fn.plan.events;
}

abbrev pub decreases-strides : goal.decreases-strides
decreases-strides g l = l.from
