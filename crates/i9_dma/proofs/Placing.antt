-- A channel is put in the place of another.
use Rattle.std.proofs.Common.{◌≡◌, ℕ, ◌<◌, Bool, List, length, get_or, arith}
use Rattle.std.specs.Prelude.{◌==◌, if◌then◌else◌}
use Rattle.std.proofs.Math.ListN.{set}
use Rattle.std.proofs.lemmas.Grind.{common_steps}
use Rattle.std.proofs.lemmas.Bool.Decides.{nat_tests}
use Rattle.i9_model.specs.State.{Dma, Channel}
use Rattle.i9_model.specs.Dma.{with_channel}
use Rattle.i9_dma.specs.declared.channel.Channel.{Channel as Kept}
use Rattle.i9_dma.specs.Channels.{channel_of, channel_at, unused}

set_is : (channels : List Kept) (c k : ℕ) (v : Kept) → c < length channels → get_or (set channels c v) k unused ≡ (if k == c then v else get_or channels k unused)
set_is channels c k v h = grind (arith, common_steps, nat_tests)

either : (b : Bool) (v w : Kept) → channel_of (if b then v else w) ≡ (if b then channel_of v else channel_of w)
either b v w = grind arith

place : (channels : List Kept) (c : ℕ) (v : Kept) (channel : Channel) → c < length channels → channel_of v ≡ channel → (k : ℕ)
    → channel_at (set channels c v) k ≡ (if k == c then channel else channel_at channels k)
place channels c v channel h e k = grind (arith, set_is, either)

abbrev dma : (ℕ → Channel) → ℕ → Dma
dma channels dmac = record { channels = channels; dmac = dmac }

pub placed : (channels : List Kept) (c old command dmac : ℕ) (v : Kept) (channel : Channel) → c < length channels → channel_of v ≡ channel → command ≡ dmac
    → dma (channel_at (set channels c v)) command ≡ record (with_channel (dma (channel_at channels) old) c channel) { dmac = dmac }
placed channels c old command dmac v channel h e same = λ i. dma (λ k. place channels c v channel h e k i) (same i)
