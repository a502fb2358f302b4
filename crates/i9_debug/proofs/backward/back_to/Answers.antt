use Rattle.std.proofs.Common.{◌≡◌, ap, ◌∙◌, refl, arith}
use Rattle.std.proofs.lemmas.Result.{err_from_is_err_and}
use Rattle.i9_model.specs.declared.view.View.{View}
use Rattle.i9_course.specs.Course.{records_of}
use Rattle.i9_debug.specs.Session.{count_at}
use Rattle.i9_debug.proofs.Returning.{same_given, given_kept, debugged_has, arrival_below, arrived, gone_back}
use Rattle.i9_debug.proofs.backward.back_to.Goals as goal

pub arrival-requires-clause-reaches : goal.arrival-requires-clause-reaches
arrival-requires-clause-reaches c =
    debugged_has _ _ c.args.m.now _ c.view-issued.result _ c.requires.stands
    (λ h end s. c.view-issued.ensures.shown c.requires.stands.given h end s) (omega arith)

-- the schedule of the second call is that of the first
pub go_back-requires-clause-reaches : goal.go_back-requires-clause-reaches
go_back-requires-clause-reaches c =
    let r = c.requires.stands in
    let issued : c.view-issued.result.count ≡ count_at r.given r.place = ap (λ (v : View). v.count) (c.view-issued.ensures.shown r.given r.place.items r.place.end r.stands.stands) in
    let same = same_given c.args.image.now c.args.sets r.given c.args.plan.now r.of r.stands.events in
    let is = arrived r.given r.place c.args.address c.in_ok-count.count r.is_place (rw (same, issued) at c.in_ok-count.ensures.last) in
    let below = arrival_below c.args.address (count_at r.given r.place) (records_of r.place.items) in
    rw (given_kept c.args.image.now c.args.sets c.args.plan.now c.arrival.new.plan c.arrival.ensures.same.0)
    (debugged_has _ _ c.args.m.now _ c.view-issued.result _ r (λ h end s. c.view-issued.ensures.shown r.given h end s) (omega (arith, is, below, issued)))

pub go_back-requires-clause-trail : goal.go_back-requires-clause-trail
go_back-requires-clause-trail c =
    rw (given_kept c.args.image.now c.args.sets c.args.plan.now c.arrival.new.plan c.arrival.ensures.same.0) c.arrival.ensures.trail

pub returns-clause-trail : goal.returns-clause-trail
returns-clause-trail c =
    rw (given_kept c.args.image.now c.args.sets c.args.plan.now c.arrival.new.plan c.arrival.ensures.same.0) at c.go_back.ensures.trail

pub returns-in_err-count-clause-gone : goal.returns-in_err-count-clause-gone
returns-in_err-count-clause-gone c = λ what p of is at_place.
    rw (err_from_is_err_and c.from_residual.result c.from_residual.ensures.1).1 (record { gone = tt; same = (refl, c.arrival.ensures.same) })

pub returns-clause-gone : goal.returns-clause-gone
returns-clause-gone c = λ what p of is at_place.
    let issued : c.view-issued.result.count ≡ count_at what p = ap (λ (v : View). v.count) (c.view-issued.ensures.shown what p.items p.end at_place.stands) in
    let same = same_given c.args.image.now c.args.sets what c.args.plan.now of at_place.events in
    let there = arrived what p c.args.address c.in_ok-count.count is (rw (same, issued) at c.in_ok-count.ensures.last) in
    let kept = c.arrival.ensures.same in
    gone_back c.go_back.result what _ _ _ c.args.plan.now c.arrival.new.plan _ kept
    (rw (given_kept c.args.image.now c.args.sets c.args.plan.now c.arrival.new.plan kept.0 ∙ same, there) at c.go_back.ensures.stands)
    c.go_back.ensures.same
