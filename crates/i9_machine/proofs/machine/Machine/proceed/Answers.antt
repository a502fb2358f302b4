use Rattle.i9_machine.proofs.machine.Machine.proceed.Goals as goal

pub returns-in-Some-proceed_until-clause-next : goal.returns-in-Some-proceed_until-clause-next
returns-in-Some-proceed_until-clause-next c =
    λ g h stands follows. (rw c.in-Some-proceed_until.is at (c.proceed_until.ensures.next g h stands follows)).1

pub returns-in-None-proceed_until-clause-next : goal.returns-in-None-proceed_until-clause-next
returns-in-None-proceed_until-clause-next c =
    λ g h stands follows. absurd (rw c.in-None-proceed_until.is at (c.proceed_until.ensures.next g h stands follows))
