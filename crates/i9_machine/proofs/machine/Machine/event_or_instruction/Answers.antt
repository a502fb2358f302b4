use Rattle.i9_machine.specs.Contents.{situation}
use Rattle.i9_machine.proofs.Turning.{timely_event}
use Rattle.i9_machine.proofs.machine.Machine.event_or_instruction.Goals as goal

pub reaches-requires-clause-stands : goal.reaches-requires-clause-stands
reaches-requires-clause-stands c =
    let r = c.requires in
    timely_event (situation c.args.self.now) _ _ c.args.plan.now _ r.timely
    (record { due = r.free; below = r.below; chosen = r.chosen }) c.count.ensures c.in-Some.ensures.event

pub next_instruction-requires-clause-stands : goal.next_instruction-requires-clause-stands
next_instruction-requires-clause-stands c =
    let r = c.requires in
    timely_event (situation c.args.self.now) _ _ c.args.plan.now _ r.timely
    (record { due = r.free; below = r.below; chosen = r.chosen }) c.count.ensures c.in-None.ensures.event
