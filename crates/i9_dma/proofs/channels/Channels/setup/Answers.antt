use Rattle.std.proofs.Common.{ℕ, ◌+◌, refl, ap, ◌∙◌, rules}
use Rattle.i9_model.specs.declared.dma.TheConstants.{FIRST_ENDED_PLACE}
use Rattle.i9_model.specs.Requests.{without_bit}
use Rattle.i9_model.specs.Dma.{set_up}
use Rattle.i9_dma.specs.Channels.{dma_of}
use Rattle.i9_dma.proofs.Placing.{placed}
use Rattle.i9_dma.proofs.channels.Channels.setup.Goals as goal

pub returns : goal.returns
unfolding dma_of set_up
returns c =
    let command = c.without_bit-self.ensures ∙ ap (λ (w : ℕ). without_bit w (FIRST_ENDED_PLACE + c.args.c)) c.without_bit.ensures in
    placed c.args.self.now.channels c.args.c c.args.self.now.command c.without_bit-self.result _ _ _ (search rules) refl command
