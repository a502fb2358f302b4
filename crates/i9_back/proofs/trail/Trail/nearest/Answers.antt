use Rattle.std.proofs.Common.{ap, sym, subst}
use Rattle.std.specs.List.{AllByRecursion}
use Rattle.i9_model.specs.Given.{given}
use Rattle.i9_model.specs.Image.{pairs_of}
use Rattle.i9_schedule.specs.Plan.{Plan}
use Rattle.i9_back.specs.Trail.{IsKept}
use Rattle.i9_back.proofs.Going.{rewound_stands}
use Rattle.i9_back.proofs.Trails.{copy_stands}
use Rattle.i9_back.proofs.trail.Trail.nearest.Goals as goal

pub seek-requires : goal.seek-requires
seek-requires c =
    let g = given (pairs_of c.args.image.now) c.args.plan.now.events c.args.length c.args.sets in
    (c.in-Some.ensures g (subst (AllByRecursion (IsKept g)) (sym c.deref.ensures.value) c.requires.trail)).0.within

pub returns-in_ok-machine-in-Some-clause-stands : goal.returns-in_ok-machine-in-Some-clause-stands
returns-in_ok-machine-in-Some-clause-stands c =
    let g = given (pairs_of c.args.image.now) c.args.plan.now.events c.args.length c.args.sets in
    let k = (c.in-Some.ensures g (subst (AllByRecursion (IsKept g)) (sym c.deref.ensures.value) c.requires.trail)).0 in
    copy_stands g _ _ _ _ _ (k.stands c.args.plan.now.version) (λ h stands. c.in_ok-machine-in-Some.ensures.stands g h stands) c.in_ok-machine-in-Some.ensures.turn
    (ap (λ (p : Plan). p.events) c.seek.ensures) (ap (λ (p : Plan). p.place) c.seek.ensures)

pub returns-in_ok-machine-in-Some-clause-order : goal.returns-in_ok-machine-in-Some-clause-order
returns-in_ok-machine-in-Some-clause-order c =
    let g = given (pairs_of c.args.image.now) c.args.plan.now.events c.args.length c.args.sets in
    (c.in-Some.ensures g (subst (AllByRecursion (IsKept g)) (sym c.deref.ensures.value) c.requires.trail)).1

pub returns-in_ok-machine-in-None-clause-stands : goal.returns-in_ok-machine-in-None-clause-stands
returns-in_ok-machine-in-None-clause-stands c =
    rewound_stands _ _ _ _ c.args.plan.now _ c.in_ok-machine-in-None.ensures.stands c.in_ok-machine-in-None.ensures.turn c.rewind.ensures.first c.rewind.ensures.plan
