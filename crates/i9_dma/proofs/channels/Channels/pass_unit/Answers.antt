use Rattle.std.proofs.Common.{ap, ◌∙◌, rules}
use Rattle.std.specs.Prelude.{◌==◌, if◌then◌else◌}
use Rattle.i9_model.specs.State.{Channel}
use Rattle.i9_model.specs.Dma.{channel_behind, ended, dma_behind}
use Rattle.i9_dma.specs.Channels.{dma_of}
use Rattle.i9_dma.proofs.Placing.{placed}
use Rattle.i9_dma.proofs.channels.Channels.pass_unit.Goals as goal

pub returns-clause-dma : goal.returns-clause-dma
unfolding dma_of dma_behind
returns-clause-dma c =
    let command = c.args.self.now.command in
    let behind = c.behind-behind.ensures ∙ ap channel_behind c.channel.ensures in
    placed c.args.self.now.channels c.args.c command c.command_behind-self.result _ c.behind-behind.result _ (search rules) behind
    (c.command_behind-self.ensures ∙ ap (λ (x : Channel). if x.count == 0 then ended command c.args.c else command) behind)
