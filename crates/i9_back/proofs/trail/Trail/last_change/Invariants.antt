use Rattle.std.proofs.Common.{◌≡◌, ◌≤◌}
use Rattle.i9_model.specs.Given.{given}
use Rattle.i9_model.specs.Image.{pairs_of}
use Rattle.i9_back.specs.Trail.{IsTrail, FoundBetween, ChangedLast}
use Rattle.i9_back.proofs.trail.Trail.last_change.Given as goal

abbrev pub invariant-strides : goal.invariant-strides
invariant-strides l = record {
  found : FoundBetween (ChangedLast l.a) (given (pairs_of l.image) l.fn.plan.events l.length l.fn.sets) l.from l.n l.found;
  within : l.from ≤ l.n;
  trail : IsTrail (given (pairs_of l.image) l.fn.plan.events l.length l.fn.sets) l.self;
  events : l.plan.events ≡ l.fn.plan.events;
}

abbrev pub decreases-strides : goal.decreases-strides
decreases-strides l = l.from
