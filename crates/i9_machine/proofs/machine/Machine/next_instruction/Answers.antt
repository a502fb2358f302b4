use Rattle.std.proofs.Common.{None, refl, sym, ap, ◌∙◌}
use Rattle.i9_model.specs.Run.{next_by_standing}
use Rattle.i9_model.specs.Turns.{waiting_until}
use Rattle.i9_plan.specs.Planned.{standing_of}
use Rattle.i9_machine.specs.Contents.{situation}
use Rattle.i9_machine.specs.Step.{next_where}
use Rattle.i9_machine.proofs.Arriving.{planned}
use Rattle.i9_machine.proofs.Stepping.{goes_by_itself}
use Rattle.i9_machine.proofs.machine.Machine.next_instruction.Goals as goal

pub returns-in-Meets-clause-next : goal.returns-in-Meets-clause-next
returns-in-Meets-clause-next c =
    let at = situation c.args.self.now in
    let r = c.requires in
    ap (next_where at) r.stands
    ∙ goes_by_itself at (record { due = r.free; below = r.below; chosen = r.chosen })
    ∙ ap (next_by_standing at.state)
    (sym c.plan_here.ensures.standing ∙ ap (standing_of c.plan_here.new.decodes) c.in-Meets.is)

pub returns-in-Refused-clause-next : goal.returns-in-Refused-clause-next
returns-in-Refused-clause-next c =
    let at = situation c.args.self.now in
    let r = c.requires in
    let itself = goes_by_itself at (record { due = r.free; below = r.below; chosen = r.chosen })
    ∙ ap (next_by_standing at.state)
    (sym c.plan_here.ensures.standing ∙ ap (standing_of c.plan_here.new.decodes) c.in-Refused.is) in
    planned at c.keep.new.self c.args.plan.now _ c.need_refused-need.result _
    (c.keep.ensures.need ∙ λ i. waiting_until (c.faults-step.ensures.like i).pipeline.floor c.need_refused-need.result)
    c.keep.ensures.effect r.stands
    (c.faults-step.ensures.step c.need_refused-need.result None None c.args.plan.now refl itself
    (c.need_refused-need.ensures.need at.size at.cache) c.need_refused-need.ensures.cost)

pub returns-in-Faults-clause-next : goal.returns-in-Faults-clause-next
returns-in-Faults-clause-next c =
    let at = situation c.args.self.now in
    let r = c.requires in
    let itself = goes_by_itself at (record { due = r.free; below = r.below; chosen = r.chosen })
    ∙ ap (next_by_standing at.state)
    (sym c.plan_here.ensures.standing ∙ ap (standing_of c.plan_here.new.decodes) c.in-Faults.is) in
    planned at c.keep-in-Faults.new.self c.args.plan.now _ c.need_faulted-need.result _
    (c.keep-in-Faults.ensures.need ∙ λ i. waiting_until
    (c.faults_by-step.ensures.like i).pipeline.floor c.need_faulted-need.result) c.keep-in-Faults.ensures.effect
    r.stands
    (c.faults_by-step.ensures.step c.need_faulted-need.result None c.args.plan.now itself
    (c.need_faulted-need.ensures.need at.size at.cache) c.need_faulted-need.ensures.cost)

pub returns-in-Runs-clause-next : goal.returns-in-Runs-clause-next
returns-in-Runs-clause-next c =
    let at = situation c.args.self.now in
    let r = c.requires in
    let itself = goes_by_itself at (record { due = r.free; below = r.below; chosen = r.chosen })
    ∙ ap (next_by_standing at.state)
    (sym c.plan_here.ensures.standing ∙ ap (standing_of c.plan_here.new.decodes) c.in-Runs.is) in
    planned at c.keep-in-Runs.new.self c.args.plan.now _ c.need_done-need.result _ c.keep-in-Runs.ensures.need
    c.keep-in-Runs.ensures.effect r.stands
    (c.does-step.ensures c.need_done-need.result None c.args.plan.now itself
    (c.need_done-need.ensures.need) c.need_done-need.ensures.cost)
