use Rattle.std.proofs.Common.{◌∙◌}
use Rattle.i9_pipeline.specs.Flow.{flow_of}
use Rattle.i9_pipeline.proofs.Shown.{registers_shown, busy_shown}
use Rattle.i9_machine.proofs.machine.Machine.raw.Goals as goal

pub returns : goal.returns
returns c = λ g h end stands.
    let p = flow_of c.args.self.now.pipeline in
    let regs = c.raw_registers.ensures ∙ registers_shown g h p stands.flow in
    let busy = c.busy_registers.ensures ∙ busy_shown g h p stands.flow in
    λ i. record { turn = p.turn; regs = regs i; busy = busy i }
