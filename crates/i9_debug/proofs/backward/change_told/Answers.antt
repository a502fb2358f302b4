use Rattle.std.proofs.Common.{◌≡◌, ap, arith}
use Rattle.i9_model.specs.declared.view.View.{View}
use Rattle.i9_debug.specs.Session.{count_at}
use Rattle.i9_debug.proofs.Returning.{same_given, debugged_has, answered_change}
use Rattle.i9_debug.proofs.backward.change_told.Goals as goal

pub last_change-change-requires-clause-reaches : goal.last_change-change-requires-clause-reaches
last_change-change-requires-clause-reaches c =
    debugged_has _ _ c.args.m.now _ c.view-issued.result _ c.requires.stands
    (λ h end s. c.view-issued.ensures.shown c.requires.stands.given h end s) (omega arith)

pub returns-in-Who-clause-change : goal.returns-in-Who-clause-change
returns-in-Who-clause-change c = λ what p of is at_place.
    let issued : c.view-issued.result.count ≡ count_at what p = ap (λ (v : View). v.count) (c.view-issued.ensures.shown what p.items p.end at_place.stands) in
    let same = same_given c.args.image.now c.args.sets what c.args.plan.now of at_place.events in
    rw c.in-Who.is (answered_change c.last_change-change.result what p _ _ is (rw (same, issued) at c.last_change-change.ensures.found))
