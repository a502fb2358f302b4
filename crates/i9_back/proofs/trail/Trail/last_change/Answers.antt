use Rattle.std.proofs.Common.{not, sym, ap, ◌∙◌, inl, inr, arith}
use Rattle.i9_schedule.specs.Plan.{Plan}
use Rattle.i9_back.proofs.Trails.{has_fewer, none_there, older_found, last_found}
use Rattle.i9_back.proofs.trail.Trail.last_change.Goals as goal
use Rattle.i9_back.proofs.trail.Trail.last_change.Goals.{then-strides-test+else-from-gt0, else-strides-test}

pub watch_last-requires-in-strides-clause-reaches : goal.watch_last-requires-in-strides-clause-reaches
watch_last-requires-in-strides-clause-reaches c =
    rw c.strides.invariant.events (has_fewer _ c.strides.from c.args.n c.strides.invariant.within c.requires.reaches)

pub strides-preserved : goal.strides-preserved
strides-preserved c =
    let was = c.strides.invariant in
    let none = none_there c.strides.found (c.is_none.ensures ∙ ap not c.strides-test.true) in
    let order = c.in_ok-found-2.ensures.order in
    let within = was.within in
    record {
      found = older_found _ _ _ _ c.args.a _ (rw none at was.found) (rw was.events at c.in_ok-found-2.ensures.found);
      within = omega (arith, order, within);
      trail = rw was.events at c.in_ok-found-2.ensures.trail;
      events = c.in_ok-found-2.ensures.events ∙ was.events;
    }

pub returns-clause-found : goal.returns-clause-found
returns-clause-found c =
    let events = ap (λ (p : Plan). p.events) c.seek.ensures in
    let place = ap (λ (p : Plan). p.place) c.seek.ensures in
    last_found _ c.strides.from c.args.n c.args.a c.strides.found c.watch_last.new.plan _ c.strides.invariant.found (elim c.strides-test.branch [
      | then-strides-test+else-from-gt0 w ↦ let none = w.if-from-gt0.false in inl (omega (arith, none))
      | else-strides-test w ↦ inr (c.is_none.ensures ∙ ap not w.strides-test.false)
    ])
    c.in_ok-found.ensures.behind (events ∙ c.strides.invariant.events ∙ sym c.in_ok-found.ensures.events) (place ∙ c.place-place.ensures.place)
