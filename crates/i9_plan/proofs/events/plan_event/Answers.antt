use Rattle.std.proofs.Common.{ap}
use Rattle.i9_model.specs.Before.{posting, received_in}
use Rattle.i9_model.specs.Interrupts.{posted, posted_nmi, lowered, raised}
use Rattle.i9_processor.specs.State.{state_of}
use Rattle.i9_plan.proofs.events.plan_event.Goals as goal

pub returns-in-Pin : goal.returns-in-Pin
unfolding received_in
returns-in-Pin c =
    let s = state_of c.args.p.now in
    (posting s (posted s.interrupts c.in-Pin.x), ap (received_in s) c.in-Pin.is, c.posting.ensures)

pub returns-in-Low : goal.returns-in-Low
unfolding received_in
returns-in-Low c =
    let s = state_of c.args.p.now in
    (posting s (lowered s.interrupts c.in-Low.x), ap (received_in s) c.in-Low.is, c.posting-in-Low.ensures)

pub returns-in-High : goal.returns-in-High
unfolding received_in
returns-in-High c =
    let s = state_of c.args.p.now in
    (posting s (raised s.interrupts c.in-High.x), ap (received_in s) c.in-High.is, c.posting-in-High.ensures)

pub returns-in-Nmi : goal.returns-in-Nmi
unfolding received_in
returns-in-Nmi c =
    let s = state_of c.args.p.now in
    (posting s (posted_nmi s.interrupts), ap (received_in s) c.in-Nmi.is, c.posting-in-Nmi.ensures)

pub returns-in-Show : goal.returns-in-Show
unfolding received_in
returns-in-Show c =
    let s = state_of c.args.p.now in
    (posting s s.interrupts, ap (received_in s) c.in-Show.is, c.posting-in-Show.ensures)
