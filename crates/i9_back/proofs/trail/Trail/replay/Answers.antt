use Rattle.std.proofs.Common.{◌≡◌, ◌∙◌, arith}
use Rattle.i9_back.proofs.Trails.{can_go_on}
use Rattle.i9_back.proofs.trail.Trail.replay.Goals as goal

pub forward-requires-clause-stands : goal.forward-requires-clause-stands
forward-requires-clause-stands c =
    can_go_on _ c.stops.done _ c.args.c c.stops.m c.stops.plan c.next_stop-next.ensures.within c.stops.invariant.stands c.requires.reaches

pub stops-preserved : goal.stops-preserved
stops-preserved c =
    let was = c.stops.invariant in
    let stands = c.in_ok-forward.ensures.stands _ was.stands in
    record {
      stands = stands;
      within = c.next_stop-next.ensures.within;
      trail = c.keep.ensures _ was.trail stands;
      events = c.in_ok-forward.ensures.events ∙ was.events;
    }

pub returns-clause-stands : goal.returns-clause-stands
returns-clause-stands c =
    let within = c.stops.invariant.within in
    let over = c.stops-test.false in
    let whole : c.args.c ≡ c.stops.done = omega (arith, within, over) in
    rw whole c.stops.invariant.stands
