-- Hazards: accesses that lean on the frame of a call that the processor may not have written to memory yet. Each names
-- the least byte of the access that is concerned, counted upwards from its address.
use Rattle.std.specs.Prelude.{ℕ, ◌+◌, Bool, ◌==◌, if◌then◌else◌, List, [], ◌∷◌, Option, Some, None, Result, Ok, Err}
use Rattle.std.specs.Prelude.{find}
use Rattle.i9_model.specs.declared.layout.TheConstants.{FRAME_SIZE, RECORD_SIZE}
use Rattle.i9_model.specs.declared.push.Push.{Push}
use Rattle.i9_model.specs.Writes.{wrapped, places_of}
use Rattle.i9_model.specs.Memory.{in_port_page}
use Rattle.i9_model.specs.State.{Frames}
use Rattle.i9_model.specs.Frames.{places, in_frames, rounded_down, saved, pushed, record_address}

-- the first byte of an access that passes a test
abbrev pub least : (ℕ → Bool) → ℕ → ℕ → Option ℕ
least test a n = find test (places a n)

-- a read of a soft byte
unfoldable pub read_hazard : Frames → ℕ → ℕ → Option ℕ
read_hazard s a n = least s.soft a n

-- a write of a byte of a live frame
unfoldable pub write_hazard : Frames → ℕ → ℕ → Option ℕ
write_hazard s a n = least (in_frames s.live) a n

-- a write to a byte of a live frame
unfoldable pub writes_hazard : Frames → List (ℕ × ℕ) → Option ℕ
writes_hazard s ps = find (in_frames s.live) (places_of ps)

-- a byte in the port page
unfoldable pub port_hazard : ℕ → ℕ → Option ℕ
port_hazard a n = least in_port_page a n

-- the first hazard that there is
abbrev pub or_else : Option ℕ → Option ℕ → Option ℕ
or_else (Some a) later = Some a
or_else None later = later

-- a save area is written, and may not lie in the port page
abbrev pub save_hazard : Frames → ℕ → Option ℕ
save_hazard s a = or_else (write_hazard s a FRAME_SIZE) (port_hazard a FRAME_SIZE)

-- where a saved frame has its return address
abbrev pub return_place : ℕ → ℕ
return_place a = wrapped (a + 8)

-- a frame that is returned to has to be the first live one; where none is live, its return address is read from memory
abbrev pub frame_hazard : List ℕ → Frames → ℕ → Option ℕ
frame_hazard [] s a = read_hazard s (return_place a) 4
frame_hazard (f ∷ live) s a = if a == f then None else Some a

abbrev pub return_hazard : Frames → ℕ → Option ℕ
return_hazard s a = or_else (frame_hazard s.live s a) (port_hazard a FRAME_SIZE)

-- what is planned, or the hazard that it meets
abbrev pub unless : {A : Type 0} → Option ℕ → A → Result A ℕ
unless None p = Ok p
unless (Some a) p = Err a

-- a push, or the hazard of its save area
abbrev pub planned_push : Frames → ℕ → ℕ → ℕ → ℕ → Result Push ℕ
planned_push s fp base extra kind = unless (save_hazard s (rounded_down fp)) (pushed fp base extra kind)

-- The record below a new frame is written once the old one is saved, and may not lie in the port page.
unfoldable pub record_write_hazard : Frames → Push → Option ℕ
record_write_hazard f push =
    or_else (write_hazard (saved f push.save) (record_address push.frame) RECORD_SIZE)
    (port_hazard (record_address push.frame) RECORD_SIZE)
