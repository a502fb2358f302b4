use Rattle.std.proofs.Common.{◌≡◌, refl, ◌∙◌, arith}
use Rattle.i9_back.specs.Trail.{ChangedLast}
use Rattle.i9_back.proofs.Trails.{can_go_on, found_none, watched_on, watched_stands}
use Rattle.i9_back.proofs.trail.Trail.watch_last.Goals as goal

pub stops-init : goal.stops-init
stops-init c =
    let order = c.in_ok-m.ensures.order in
    let before = c.saturating_sub.ensures in
    record {
      found = found_none (ChangedLast c.args.a) _ _ c.in_ok-m.m c.nearest.new.plan refl c.in_ok-m.ensures.stands;
      stands = c.in_ok-m.ensures.stands;
      within = omega (arith, order, before);
      trail = c.requires.trail;
      events = c.in_ok-m.ensures.events;
    }

pub watch-requires-clause-stands : goal.watch-requires-clause-stands
watch-requires-clause-stands c =
    can_go_on _ c.stops.done _ c.args.to c.stops.m c.stops.plan c.next_stop-next.ensures.within c.stops.invariant.stands c.requires.reaches

pub stops-preserved : goal.stops-preserved
stops-preserved c =
    let was = c.stops.invariant in
    let watched = c.in_ok-watch.ensures.found _ was.stands in
    let stands = watched_stands _ _ _ c.args.a _ _ _ watched in
    record {
      found = rw c.or-found.ensures (watched_on _ _ _ _ c.args.a _ _ _ _ _ _ was.found was.stands watched);
      stands = stands;
      within = c.next_stop-next.ensures.within;
      trail = c.keep.ensures _ was.trail stands;
      events = c.in_ok-watch.ensures.events ∙ was.events;
    }

pub returns-clause-found : goal.returns-clause-found
returns-clause-found c =
    let within = c.stops.invariant.within in
    let over = c.stops-test.false in
    let whole : c.args.to ≡ c.stops.done = omega (arith, within, over) in
    rw whole c.stops.invariant.found
