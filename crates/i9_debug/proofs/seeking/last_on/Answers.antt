use Rattle.std.proofs.Common.{None, not, ap, ◌∙◌, inl, inr, arith}
use Rattle.i9_back.proofs.Trails.{has_fewer, none_there}
use Rattle.i9_debug.specs.Driven.{given_of}
use Rattle.i9_debug.proofs.Lasts.{held_on, held_all}
use Rattle.i9_debug.proofs.Returning.{given_kept}
use Rattle.i9_debug.proofs.seeking.last_on.Goals as goal
use Rattle.i9_debug.proofs.seeking.last_on.Goals.{then-strides-test+else-from-gt0, else-strides-test}

pub seek_last-requires-in-strides-clause-reaches : goal.seek_last-requires-in-strides-clause-reaches
seek_last-requires-in-strides-clause-reaches g c =
    rw (given_kept c.args.image.now c.args.sets c.args.plan.now c.strides.plan c.strides.invariant.events)
    (has_fewer _ c.strides.from c.args.n c.strides.invariant.within c.requires.reaches)

pub strides-preserved : goal.strides-preserved
strides-preserved g c =
    let what = given_of c.args.image.now c.args.sets c.args.plan.now in
    let was = c.strides.invariant in
    let same = given_kept c.args.image.now c.args.sets c.args.plan.now c.strides.plan was.events in
    let none = none_there c.strides.found (c.is_none.ensures ∙ ap not c.strides-test.true) in
    let order = c.in_ok-found-2.ensures.order in
    let within = was.within in
    record {
      found = held_on (g.F.ViewTest.allows c.args.s.now) c.args.n what _ _ _ None _ (rw same at c.in_ok-found-2.ensures.found) (rw none at was.found);
      within = omega (arith, order, within);
      trail = rw same at c.in_ok-found-2.ensures.trail;
      events = c.in_ok-found-2.ensures.events ∙ was.events;
    }

pub returns-clause-last : goal.returns-clause-last
returns-clause-last g c =
    rw c.unwrap_or.ensures (held_all _ c.args.n _ c.strides.from c.strides.found c.strides.invariant.found (elim c.strides-test.branch [
      | then-strides-test+else-from-gt0 w ↦ let none = w.if-from-gt0.false in inl (omega (arith, none))
      | else-strides-test w ↦ inr (c.is_none.ensures ∙ ap not w.strides-test.false)
    ]))
