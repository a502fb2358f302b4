use Rattle.std.proofs.Common.{◌≡◌, ◌-◌, ◌≤◌}
use Rattle.i9_model.specs.Given.{given}
use Rattle.i9_model.specs.Image.{pairs_of}
use Rattle.i9_back.specs.Stands.{StandsEarlier}
use Rattle.i9_back.specs.Trail.{IsTrail, FoundBetween, ChangedLast}
use Rattle.i9_back.proofs.trail.Trail.watch_last.Given as goal

abbrev pub invariant-stops : goal.invariant-stops
invariant-stops l = record {
  found : FoundBetween (ChangedLast l.a) (given (pairs_of l.image) l.fn.plan.events l.length l.fn.sets) l.from l.done l.found;
  stands : StandsEarlier (given (pairs_of l.image) l.fn.plan.events l.length l.fn.sets) l.done l.m l.plan;
  within : l.done ≤ l.to;
  trail : IsTrail (given (pairs_of l.image) l.fn.plan.events l.length l.fn.sets) l.self;
  events : l.plan.events ≡ l.fn.plan.events;
}

abbrev pub decreases-stops : goal.decreases-stops
decreases-stops l = l.to - l.done
