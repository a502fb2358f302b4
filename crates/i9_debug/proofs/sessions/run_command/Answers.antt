use Rattle.std.proofs.Common.{refl, inl}
use Rattle.i9_debug.specs.Driven.{in_run, not_back, not_last}
use Rattle.i9_debug.proofs.Returning.{back_leads, last_leads}
use Rattle.i9_debug.proofs.Stepwise.{drives_by}
use Rattle.i9_debug.proofs.Commands.{place_in_run, stays_there, went_back}
use Rattle.i9_debug.proofs.sessions.run_command.Goals as goal

pub turn_on-requires : goal.turn_on-requires
turn_on-requires g c =
    let r = c.requires.stands in
    let range = rw c.in-Turn.is at c.requires.range in
    record { stands = place_in_run r.given r.place c.args.m.now c.args.plan.now r.stands; some = range.0; few = range.1 }

pub come_to-requires : goal.come_to-requires
come_to-requires g c =
    let r = c.requires.stands in
    record { stands = place_in_run r.given r.place c.args.m.now c.args.plan.now r.stands }

pub returns-in-Turn-clause-drives : goal.returns-in-Turn-clause-drives
returns-in-Turn-clause-drives g c = λ what p of is at_place.
    drives_by _ what _ _ _ _ _ _ _ _ _ (λ x y q cut. rw c.in-Turn.is (in_run _ x y q cut)) (λ x q leads. inl (rw c.in-Turn.is leads))
    (c.turn_on.ensures what p at_place)

pub returns-in-Until-clause-drives : goal.returns-in-Until-clause-drives
returns-in-Until-clause-drives g c = λ what p of is at_place.
    drives_by _ what _ _ _ _ _ _ _ _ _ (λ x y q cut. rw c.in-Until.is (in_run _ x y q cut)) (λ x q leads. inl (rw c.in-Until.is leads))
    (c.come_to.ensures what p at_place)

pub returns-in-Back-clause-drives : goal.returns-in-Back-clause-drives
returns-in-Back-clause-drives g c = λ what p of is at_place.
    went_back _ what c.back_by.result _ _ p _ _ _ _ _ _ _ c.gone.ensures.done c.gone.ensures.refused (λ q back. rw c.in-Back.is (refl, back))
    (back_leads what p _ is) (rw c.in-Back.is (not_back _)) at_place (c.back_by.ensures.gone what p of is at_place)

pub returns-in-Last-clause-drives : goal.returns-in-Last-clause-drives
returns-in-Last-clause-drives g c = λ what p of is at_place.
    went_back _ what c.back_to.result _ _ p _ _ _ _ _ _ _ c.gone-in-Last.ensures.done c.gone-in-Last.ensures.refused (λ q back. rw c.in-Last.is (refl, back))
    (last_leads what p _ is) (rw c.in-Last.is (not_last _)) at_place (c.back_to.ensures.gone what p of is at_place)

pub returns-in-Regs-clause-drives : goal.returns-in-Regs-clause-drives
returns-in-Regs-clause-drives g c = λ what p of is at_place. stays_there _ what _ _ p _ _ _ (rw c.in-Regs.is (refl, refl)) at_place

pub returns-in-Raw-clause-drives : goal.returns-in-Raw-clause-drives
returns-in-Raw-clause-drives g c = λ what p of is at_place. stays_there _ what _ _ p _ _ _ (rw c.in-Raw.is (refl, refl)) at_place

pub returns-in-Held-clause-drives : goal.returns-in-Held-clause-drives
returns-in-Held-clause-drives g c = λ what p of is at_place. stays_there _ what _ _ p _ _ _ (rw c.in-Held.is (refl, refl)) at_place

pub returns-in-Mem-clause-drives : goal.returns-in-Mem-clause-drives
returns-in-Mem-clause-drives g c = λ what p of is at_place. stays_there _ what _ _ p _ _ _ (rw c.in-Mem.is (refl, refl)) at_place

pub returns-in-RawMem-clause-drives : goal.returns-in-RawMem-clause-drives
returns-in-RawMem-clause-drives g c = λ what p of is at_place. stays_there _ what _ _ p _ _ _ (rw c.in-RawMem.is (refl, refl)) at_place

pub returns-in-Who-clause-drives : goal.returns-in-Who-clause-drives
returns-in-Who-clause-drives g c = λ what p of is at_place. stays_there _ what _ _ p _ _ _ (rw c.in-Who.is (refl, refl)) at_place
