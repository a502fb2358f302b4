-- Channels: what they stand for.
use Rattle.std.specs.Prelude.{ℕ, List, slice_index_or}
use Rattle.i9_model.specs.State.{Dma, Channel}
pub use Rattle.i9_model.specs.Operands.{with_command}
use Rattle.i9_dma.specs.declared.channel.Channel.{Channel as Kept}
use Rattle.i9_dma.specs.declared.channels.Channels.{Channels}

abbrev pub channel_of : Kept → Channel
channel_of c = record { control = c.control; count = c.count; source = c.source; target = c.target }

-- a channel that was never set up
abbrev pub unused : Kept
unused = record { control = 0; count = 0; source = 0; target = 0 }

-- there are no channels past the last
abbrev pub channel_at : List Kept → ℕ → Channel
channel_at channels k = channel_of (slice_index_or channels k unused)

unfoldable pub dma_of : Channels → Dma
dma_of d = record { channels = channel_at d.channels; dmac = d.command }
