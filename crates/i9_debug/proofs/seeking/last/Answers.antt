use Rattle.std.proofs.Common.{refl, inl, ap}
use Rattle.i9_model.specs.Given.{given}
use Rattle.i9_model.specs.Image.{pairs_of}
use Rattle.i9_schedule.specs.Plan.{Plan}
use Rattle.i9_back.proofs.Going.{new_stands}
use Rattle.i9_debug.proofs.Lasts.{held_all}
use Rattle.i9_debug.proofs.seeking.last.Goals as goal

pub seek-requires-clause-stands : goal.seek-requires-clause-stands
seek-requires-clause-stands g c =
    let what = given (pairs_of c.args.image.now) c.args.plan.now.events c.args.length c.args.sets in
    let events = ap (λ (p : Plan). p.events) c.rewind.ensures.first in
    let place = ap (λ (p : Plan). p.place) c.rewind.ensures.first in
    let stands = c.in_ok-m.ensures.stands c.args.plan.now.events (rw events at c.rewind.ensures.plan) in
    record { given = what; stands = new_stands what c.in_ok-m.m c.rewind.new.self stands c.in_ok-m.ensures.turn events place; reaches = c.requires.reaches }

pub returns-clause-last : goal.returns-clause-last
returns-clause-last g c =
    let what = given (pairs_of c.args.image.now) c.args.plan.now.events c.args.length c.args.sets in
    let events = ap (λ (p : Plan). p.events) c.rewind.ensures.first in
    let place = ap (λ (p : Plan). p.place) c.rewind.ensures.first in
    let stands = c.in_ok-m.ensures.stands c.args.plan.now.events (rw events at c.rewind.ensures.plan) in
    let found = c.in_ok-found.ensures.found what (new_stands what c.in_ok-m.m c.rewind.new.self stands c.in_ok-m.ensures.turn events place) in
    rw c.unwrap_or.ensures (held_all (g.F.ViewTest.allows c.args.s.now) c.args.n what 0 c.in_ok-found.found found.0 (inl refl))
