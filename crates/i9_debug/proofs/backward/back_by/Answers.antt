use Rattle.std.proofs.Common.{◌≡◌, ◌-◌, refl, ap, arith}
use Rattle.i9_model.specs.declared.view.View.{View}
use Rattle.i9_debug.specs.Session.{count_at}
use Rattle.i9_debug.proofs.Returning.{same_given, debugged_has, gone_back}
use Rattle.i9_debug.proofs.backward.back_by.Goals as goal

pub go_back-requires-clause-reaches : goal.go_back-requires-clause-reaches
go_back-requires-clause-reaches c =
    let by = c.saturating_sub.ensures in
    debugged_has _ _ c.args.m.now _ c.view-issued.result _ c.requires.stands
    (λ h end s. c.view-issued.ensures.shown c.requires.stands.given h end s) (omega (arith, by))

pub returns-clause-gone : goal.returns-clause-gone
returns-clause-gone c = λ what p of is at_place.
    let issued : c.view-issued.result.count ≡ count_at what p = ap (λ (v : View). v.count) (c.view-issued.ensures.shown what p.items p.end at_place.stands) in
    let by = c.saturating_sub.ensures in
    let same : c.saturating_sub.result ≡ count_at what p - c.args.count = omega (arith, issued, by) in
    gone_back c.go_back.result what _ _ _ c.args.plan.now c.args.plan.now _ (refl, refl)
    (rw (same_given c.args.image.now c.args.sets what c.args.plan.now of at_place.events, same) at c.go_back.ensures.stands)
    c.go_back.ensures.same
