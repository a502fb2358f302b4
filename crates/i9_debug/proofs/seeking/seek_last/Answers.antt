use Rattle.std.proofs.Common.{◌≡◌, refl, ◌∙◌, arith}
use Rattle.i9_back.proofs.Trails.{can_go_on, found_none}
use Rattle.i9_debug.specs.Driven.{given_of}
use Rattle.i9_debug.specs.Last.{HeldLast}
use Rattle.i9_debug.proofs.Lasts.{held_on}
use Rattle.i9_debug.proofs.seeking.seek_last.Goals as goal

pub stops-init : goal.stops-init
stops-init g c =
    let order = c.in_ok-m.ensures.order in
    let before = c.saturating_sub-before.ensures in
    record {
      found = found_none (HeldLast (g.F.ViewTest.allows c.args.s.now) c.args.n) _ _ _ _ refl c.in_ok-m.ensures.stands;
      stands = c.in_ok-m.ensures.stands;
      within = omega (arith, order, before);
      trail = c.requires.trail;
      events = c.in_ok-m.ensures.events;
    }

pub seek-requires-clause-stands : goal.seek-requires-clause-stands
seek-requires-clause-stands g c =
    can_go_on _ c.stops.done _ c.args.to c.stops.m c.stops.plan c.next_stop-next.ensures.within c.stops.invariant.stands c.requires.reaches

pub stops-preserved : goal.stops-preserved
stops-preserved g c =
    let what = given_of c.args.image.now c.args.sets c.args.plan.now in
    let was = c.stops.invariant in
    let sought = c.in_ok-seek.ensures.found what was.stands in
    record {
      found = rw c.or-found.ensures (held_on (g.F.ViewTest.allows c.args.s.now) c.args.n what _ _ _ _ _ was.found sought.0);
      stands = sought.1;
      within = c.next_stop-next.ensures.within;
      trail = c.keep.ensures what was.trail sought.1;
      events = c.in_ok-seek.ensures.events ∙ was.events;
    }

pub returns-clause-found : goal.returns-clause-found
returns-clause-found g c =
    let within = c.stops.invariant.within in
    let over = c.stops-test.false in
    let whole : c.stops.done ≡ c.args.to = omega (arith, within, over) in
    rw whole at c.stops.invariant.found
