use Rattle.std.proofs.Common.{◌≡◌, ◌-◌, ◌≤◌}
use Rattle.i9_back.specs.Stands.{StandsEarlier}
use Rattle.i9_back.specs.Trail.{IsTrail, FoundBetween}
use Rattle.i9_debug.specs.Driven.{given_of}
use Rattle.i9_debug.specs.Last.{HeldLast}
use Rattle.i9_debug.proofs.seeking.seek_last.Given as goal

abbrev pub invariant-stops : goal.invariant-stops
invariant-stops g l = record {
  found : FoundBetween (HeldLast (g.F.ViewTest.allows l.s) l.n) (given_of l.fn.image l.fn.sets l.fn.plan) l.from l.done l.found;
  stands : StandsEarlier (given_of l.fn.image l.fn.sets l.fn.plan) l.done l.m l.plan;
  within : l.done ≤ l.to;
  trail : IsTrail (given_of l.fn.image l.fn.sets l.fn.plan) l.trail;
  events : l.plan.events ≡ l.fn.plan.events;
}

abbrev pub decreases-stops : goal.decreases-stops
decreases-stops g l = l.to - l.done
