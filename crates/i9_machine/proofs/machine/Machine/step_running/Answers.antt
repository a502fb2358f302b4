use Rattle.std.proofs.Common.{refl, sym, ap, ◌∙◌}
use Rattle.i9_model.specs.declared.need.Need.{Need}
use Rattle.i9_model.specs.Turns.{waiting_until}
use Rattle.i9_plan.specs.Kept.{inst_in}
use Rattle.i9_machine.specs.Contents.{situation}
use Rattle.i9_machine.proofs.Arriving.{ahead_planned}
use Rattle.i9_machine.proofs.Opening.{no_barrier_named}
use Rattle.i9_machine.proofs.machine.Machine.step_running.Goals as goal

-- the need of what is light is no barrier's, and so its name is none's
pub does-step-requires-clause-named : goal.does-step-requires-clause-named
does-step-requires-clause-named c light =
    let m = c.args.self.now in
    let at = situation m in
    let kept = c.requires.runs.ahead.kept in
    no_barrier_named (inst_in m.decodes) at.size at.cache at.state
    (sym (ap (λ (n : Need). n.barrier) (kept.fenced ∙ ap (waiting_until m.pipeline.floor) kept.is_need)) ∙
    (c.requires.light light).barrier)

pub perform-requires-clause-step : goal.perform-requires-clause-step
perform-requires-clause-step c =
    let m = c.args.self.now in
    let is = c.requires.runs.ahead in
    ahead_planned m m c.args.plan.now c.args.issue _ c.does-step.result is refl
    (c.does-step.ensures is.kept.need _ c.args.plan.now is.is_next is.kept.is_need is.kept.cost)
