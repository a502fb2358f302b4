-- Units: what is planned of one, and what comes of it.
use Rattle.std.specs.Prelude.{ℕ, Bool, if◌then◌else◌, List, Option, Some, None, Result, Ok, Err}
use Rattle.std.specs.Borrow.{Bor}
use Rattle.arrayvec.specs.ArrayVec.{ArrayVec}
use Rattle.i9_model.specs.Memory.{Memory, with_writes}
use Rattle.i9_model.specs.State.{Frames, Dma}
use Rattle.i9_model.specs.Frames.{wrote}
use Rattle.i9_model.specs.Hazards.{unless}
use Rattle.i9_model.specs.Dma.{Unit, is_idle, unit_hazard, unit_bytes}
use Rattle.i9_dma.specs.declared.channels.Unit.{Unit as Answer}
use Rattle.i9_dma.specs.declared.channels.Unit.TheVariants.{Idle, Moved, Ended, Hazard}

-- the bytes that a device gives
abbrev pub given_in : Option (Bor (List ℕ)) → Option (List ℕ)
given_in None = None
given_in (Some bytes) = Some bytes.now

-- ---- a plan

-- bytes that are to be moved, of a vector of them
abbrev pub bytes_in : Result (Option (ArrayVec ℕ)) ℕ → Result (Option (List ℕ)) ℕ
bytes_in (Err a) = Err a
bytes_in (Ok None) = Ok None
bytes_in (Ok (Some bytes)) = Ok (Some bytes.items)

-- the bytes of the next unit of a channel, or the hazard that it meets; none where nothing moves
unfoldable pub planned_bytes : Memory → Frames → Dma → ℕ → Option (List ℕ) → Result (Option (List ℕ)) ℕ
planned_bytes m f d c given =
    if is_idle d c given then Ok None else unless (unit_hazard f (d.channels c) given)
    (Some (unit_bytes m (d.channels c) given))

-- ---- what comes of the next unit

abbrev pub moved_by : Bool → Answer
moved_by is_last = if is_last then Ended else Moved

abbrev pub answer_by : Bool → Result (Option Unit) ℕ → Answer
answer_by is_last (Err a) = Hazard a
answer_by is_last (Ok None) = Idle
answer_by is_last (Ok (Some u)) = moved_by is_last

-- memory, frames and DMA behind it; nothing changes where nothing moves and at a hazard
abbrev pub memory_by : Memory → Result (Option Unit) ℕ → Memory
memory_by m (Err a) = m
memory_by m (Ok None) = m
memory_by m (Ok (Some u)) = with_writes m u.writes

abbrev pub frames_by : Frames → Result (Option Unit) ℕ → Frames
frames_by f (Err a) = f
frames_by f (Ok None) = f
frames_by f (Ok (Some u)) = wrote f u.writes

abbrev pub dma_by : Dma → Result (Option Unit) ℕ → Dma
dma_by d (Err a) = d
dma_by d (Ok None) = d
dma_by d (Ok (Some u)) = u.dma
