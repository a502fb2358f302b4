-- DMA: what a channel is set up with, and the unit that it moves next.
use Rattle.std.specs.Prelude.{ℕ, ◌+◌, ◌-◌, Bool, not, ◌==◌, ◌||◌, ◌&&◌, nat_lt, if◌then◌else◌, List, length, map, take}
use Rattle.std.specs.Prelude.{Option, Some, None, Result, Ok}
use Rattle.i9_isa.specs.Words.{bit, field}
use Rattle.i9_model.specs.declared.dma.TheConstants.{FIRST_ENDED_PLACE, SOURCE_HELD_PLACE, TARGET_HELD_PLACE, FED_PLACE}
use Rattle.i9_model.specs.declared.dma.TheConstants.{POSTS_PLACE}
use Rattle.i9_model.specs.Writes.{wrapped, upwards}
use Rattle.i9_model.specs.Memory.{Memory}
use Rattle.i9_model.specs.State.{Frames, Dma, Channel}
use Rattle.i9_model.specs.Frames.{places}
use Rattle.i9_model.specs.Hazards.{or_else, unless, read_hazard, write_hazard, port_hazard}
use Rattle.i9_model.specs.Requests.{with_bit, without_bit}

-- ---- set-up

abbrev pub with_channel : Dma → ℕ → Channel → Dma
with_channel d c channel = record d { channels = λ k. if k == c then channel else d.channels k }

-- a channel that is set up is neither enabled nor ended
unfoldable pub set_up : Dma → ℕ → Channel → Dma
set_up d c channel = record (with_channel d c channel)
    { dmac = without_bit (without_bit d.dmac c) (FIRST_ENDED_PLACE + c) }

-- ---- what a unit moves

-- the bytes of a unit, by the low two bits of the control word
abbrev pub size_by : ℕ → ℕ
size_by k = if k == 0 then 1 else if k == 1 then 2 else if k == 2 then 4 else 16

abbrev pub unit_size : ℕ → ℕ
unit_size control = size_by (field control 0 2)

-- the lesser of a unit's size and of what is left
abbrev pub unit_length : Channel → ℕ
unit_length channel = if nat_lt channel.count
    (unit_size channel.control) then channel.count else unit_size channel.control

-- bytes come from memory or from a device, as the control word says; a device gives as many as a unit has
abbrev pub is_fit : Channel → Option (List ℕ) → Bool
is_fit channel None = not (bit channel.control FED_PLACE)
is_fit channel (Some given) = bit channel.control FED_PLACE && length given == unit_size channel.control

-- nothing moves where the channel is not enabled, where nothing is left, and where the bytes come from elsewhere
abbrev pub is_idle : Dma → ℕ → Option (List ℕ) → Bool
is_idle d c given = not (bit d.dmac c) || (d.channels c).count == 0 || not (is_fit (d.channels c) given)

abbrev pub source_hazard : Frames → Channel → Option (List ℕ) → Option ℕ
source_hazard f channel None = read_hazard f channel.source (unit_length channel)
source_hazard f channel (Some given) = None

-- the source is read before the target is written
unfoldable pub unit_hazard : Frames → Channel → Option (List ℕ) → Option ℕ
unit_hazard f channel given =
    or_else (source_hazard f channel given)
    (or_else (write_hazard f channel.target (unit_length channel)) (port_hazard channel.target (unit_length channel)))

-- all bytes are read before one is written
unfoldable pub unit_bytes : Memory → Channel → Option (List ℕ) → List ℕ
unit_bytes m channel None = map m.bytes (places channel.source (unit_length channel))
unit_bytes m channel (Some given) = take (unit_length channel) given

-- ---- the channel behind it

-- an address goes up by the bytes moved, unless it is held
abbrev pub stepped : Bool → ℕ → ℕ → ℕ
stepped is_held a n = if is_held then a else wrapped (a + n)

abbrev pub channel_behind : Channel → Channel
channel_behind channel = record channel {
  count = channel.count - unit_length channel;
  source = stepped (bit channel.control SOURCE_HELD_PLACE) channel.source (unit_length channel);
  target = stepped (bit channel.control TARGET_HELD_PLACE) channel.target (unit_length channel);
}

abbrev pub is_last : Channel → Bool
is_last channel = (channel_behind channel).count == 0

-- a channel of which nothing is left has ended, and is enabled no more
abbrev pub ended : ℕ → ℕ → ℕ
ended dmac c = with_bit (without_bit dmac c) (FIRST_ENDED_PLACE + c)

unfoldable pub dma_behind : Dma → ℕ → Dma
dma_behind d c = record (with_channel d c (channel_behind (d.channels c))) {
  dmac = if is_last (d.channels c) then ended d.dmac c else d.dmac;
}

-- ---- the unit

-- the bytes that are written, DMA afterwards, and whether the channel's interrupt is posted: at the end, where the
-- control word asks for it
pub record Unit : Type 0 where
  pub writes : List (ℕ × ℕ)
  pub dma : Dma
  pub posts : Bool

abbrev pub posts_at_end : Channel → Bool
posts_at_end channel = bit channel.control POSTS_PLACE

abbrev pub unit : Memory → Dma → ℕ → Option (List ℕ) → Unit
unit m d c given = record {
  writes = upwards (d.channels c).target (unit_bytes m (d.channels c) given);
  dma = dma_behind d c;
  posts = is_last (d.channels c) && posts_at_end (d.channels c);
}

-- The next unit of a channel, with the bytes that a device gives, or the hazard that it meets; none where nothing
-- moves.
unfoldable pub next_unit : Memory → Frames → Dma → ℕ → Option (List ℕ) → Result (Option Unit) ℕ
next_unit m f d c given =
    if is_idle d c given then Ok None else unless (unit_hazard f (d.channels c) given) (Some (unit m d c given))
