-- Interrupts: how they are posted, which one is chosen, and what its entry makes.
use Rattle.std.specs.Prelude.{ℕ, ◌+◌, ◌-◌, ◌*◌, ◌/◌, ◌%◌, ◌^◌, Bool, true, false, ◌==◌, ◌&&◌, ◌||◌, not, nat_lt}
use Rattle.std.specs.Prelude.{if◌then◌else◌, slice_index, List, [], ◌∷◌, ◌++◌, map, filter, flat_map, find, Option}
use Rattle.std.specs.Prelude.{Some, None, Result}
use Rattle.std.specs.List.{range_with_len}
use Rattle.i9_isa.specs.Words.{bit, field}
use Rattle.i9_model.specs.declared.layout.TheConstants.{RECORD_SIZE, INTERRUPT_RETURN, SUPERVISOR_PLACE}
use Rattle.i9_model.specs.declared.interrupts.TheConstants.{LINES, NMI_VECTOR, HIGHEST_PRIORITY, PRIORITY_PLACE}
use Rattle.i9_model.specs.declared.interrupts.TheConstants.{INTERRUPTED_PLACE, PENDING_SIZE, VECTOR_WORDS}
use Rattle.i9_model.specs.declared.interrupts.Cause.{Cause}
use Rattle.i9_model.specs.declared.interrupts.Cause.TheVariants.{Nmi, Line, Soft}
use Rattle.i9_model.specs.declared.interrupts.Chosen.{Chosen}
use Rattle.i9_model.specs.declared.push.Push.{Push}
use Rattle.i9_model.specs.declared.faults.Entry.{Entry}
use Rattle.i9_model.specs.Writes.{wrapped, upwards}
use Rattle.i9_model.specs.Memory.{Memory, word_in, with_writes}
use Rattle.i9_model.specs.State.{Frames, Interrupts, aligned}
pub use Rattle.i9_model.specs.Pins.{by_edge, is_low, pending_word}
use Rattle.i9_model.specs.Frames.{saved, wrote, pushed, record_address}
use Rattle.i9_model.specs.Hazards.{or_else, unless, read_hazard, record_write_hazard}
pub use Rattle.i9_model.specs.Requests.{with_bit, without_bit, vector_priority, priority_place, pending_place}
pub use Rattle.i9_model.specs.Requests.{byte_hazard}
unfoldable pub use Rattle.i9_model.specs.Requests.{request_hazard, request_writes}
use Rattle.i9_model.specs.Calls.{Caller, save_area}
pub use Rattle.i9_model.specs.Calls.{priority_of}
use Rattle.i9_model.specs.Step.{bytes_of_words}

-- ---- posting

-- a line is posted in the kept word
abbrev pub posted : Interrupts → ℕ → Interrupts
posted s k = record s { pending = with_bit s.pending k }

-- a pin goes low: where it was high under falling edge, this posts it
abbrev pub lowered : Interrupts → ℕ → Interrupts
lowered s x = record (if by_edge s x && not (is_low s x) then posted s x else s) { low = with_bit s.low x }

-- a pin goes high
abbrev pub raised : Interrupts → ℕ → Interrupts
raised s x = record s { low = without_bit s.low x }

abbrev pub posted_nmi : Interrupts → Interrupts
posted_nmi s = record s { nmi = true }

-- ---- vectors

-- a priority is let in where it is above that of the process controls, or is the highest
abbrev pub passes : ℕ → ℕ → Bool
passes pc p = nat_lt (priority_of pc) p || p == HIGHEST_PRIORITY

-- each map word has a field of four bits for each of four lines, the lowest first; a vector ends in 2
abbrev pub line_vector : List ℕ → ℕ → ℕ
line_vector maps k = field (slice_index maps (k / 4)) (4 * (k % 4)) 4 * 16 + 2

-- ---- what is asked for

-- a line is posted and not masked
abbrev pub is_open : Interrupts → ℕ → Bool
is_open s k = bit (pending_word s) k && bit s.mask k

abbrev pub is_requested : Memory → ℕ → ℕ → Bool
is_requested m table v =
    bit (m.bytes (priority_place table v)) (vector_priority v % 8) && bit (m.bytes (pending_place table v)) (v % 8)

-- ---- what is chosen

-- numbers downwards: so many, below a number
abbrev pub below : ℕ → ℕ → List ℕ
below top n = map (λ j. top - 1 - j) (range_with_len 0 n)

-- the eight vectors of a priority, the greatest first
abbrev pub vectors_of : ℕ → List ℕ
vectors_of p = below (8 * p + 8) 8

abbrev pub choice : Cause → ℕ → Chosen
choice cause v = record { vector = v; cause = cause }

-- the lines that have a vector, the lowest first
abbrev pub lines_with : List ℕ → ℕ → List Chosen
lines_with maps v = map (λ k. choice (Line k) v) (filter (λ k. line_vector maps k == v) (range_with_len 0 LINES))

-- at one priority lines come before software, and then the greater vector comes first
abbrev pub choices_at : List ℕ → ℕ → List Chosen
choices_at maps p = flat_map (lines_with maps) (vectors_of p) ++ map (choice Soft) (vectors_of p)

-- All that may be chosen, in the order of preference: from the highest priority down to 1. A vector below 8 has
-- priority 0, and is never chosen.
abbrev pub choices : List ℕ → List Chosen
choices maps = flat_map (choices_at maps) (below (HIGHEST_PRIORITY + 1) HIGHEST_PRIORITY)

-- it is asked for, where software asks for these vectors
abbrev pub is_asked : Interrupts → (ℕ → Bool) → Cause → ℕ → Bool
is_asked s soft Nmi v = s.nmi
is_asked s soft (Line k) v = is_open s k
is_asked s soft Soft v = soft v

-- The first that is asked for and let in; the interrupt that is never masked comes before all.
unfoldable pub chosen_of : Interrupts → (ℕ → Bool) → ℕ → Option Chosen
chosen_of s soft pc =
    if s.nmi then Some (choice Nmi NMI_VECTOR)
    else find (λ c. is_asked s soft c.cause c.vector && passes pc (vector_priority c.vector)) (choices s.maps)

-- a choice among lines alone
abbrev pub chosen : Interrupts → ℕ → Option Chosen
chosen s pc = chosen_of s (λ v. false) pc

-- a choice in which software has a part reads all bits of requests
abbrev pub chosen_soft : Interrupts → Memory → Frames → ℕ → ℕ → Result (Option Chosen) ℕ
chosen_soft s m f table pc = unless (read_hazard f table PENDING_SIZE) (chosen_of s (is_requested m table) pc)

-- ---- what an entry clears

-- the byte of the vectors of a priority, once a vector is taken
abbrev pub left_pending : Memory → ℕ → ℕ → ℕ
left_pending m table v = without_bit (m.bytes (pending_place table v)) (v % 8)

-- the bit of the priority goes with the last of its vectors
abbrev pub priority_writes : Memory → ℕ → ℕ → List (ℕ × ℕ)
priority_writes m table v =
    if left_pending m table v == 0
    then (priority_place table v, without_bit (m.bytes (priority_place table v)) (vector_priority v % 8)) ∷ []
    else []

unfoldable pub taken_writes : Memory → ℕ → ℕ → List (ℕ × ℕ)
taken_writes m table v = priority_writes m table v ++ (pending_place table v, left_pending m table v) ∷ []

-- both bytes are read, and those that change are written
abbrev pub priority_hazard : Memory → Frames → ℕ → ℕ → Option ℕ
priority_hazard m f table v = if left_pending m table v == 0 then byte_hazard f (priority_place table v) else None

unfoldable pub taken_hazard : Memory → Frames → ℕ → ℕ → Option ℕ
taken_hazard m f table v =
    or_else (read_hazard f (priority_place table v) 1)
    (or_else (read_hazard f (pending_place table v) 1)
    (or_else (priority_hazard m f table v) (byte_hazard f (pending_place table v))))

-- what chose an interrupt is cleared: of a line, its bit of the kept word; of software, bytes of the interrupt table
abbrev pub cleared : Cause → Interrupts → Interrupts
cleared Nmi s = record s { nmi = false }
cleared (Line k) s = record s { pending = without_bit s.pending k }
cleared Soft s = s

abbrev pub clearing_writes : Cause → Memory → ℕ → ℕ → List (ℕ × ℕ)
clearing_writes Nmi m table v = []
clearing_writes (Line k) m table v = []
clearing_writes Soft m table v = taken_writes m table v

abbrev pub clearing_hazard : Cause → Memory → Frames → ℕ → ℕ → Option ℕ
clearing_hazard Nmi m f table v = None
clearing_hazard (Line k) m f table v = None
clearing_hazard Soft m f table v = taken_hazard m f table v

-- ---- the entry

-- the word of its vector in the interrupt table is the handler's address
abbrev pub vector_place : ℕ → ℕ → ℕ
vector_place table v = wrapped (table + (VECTOR_WORDS + 4 * v))

-- the handler's frame is on the stack in use while an interrupt is handled, and else on the interrupt stack
abbrev pub base_for : ℕ → ℕ → ℕ → ℕ
base_for pc sp stack = if bit pc INTERRUPTED_PLACE then sp else stack

abbrev pub interrupt_push : ℕ → ℕ → ℕ → ℕ → Push
interrupt_push stack pc fp sp = pushed fp (base_for pc sp stack) RECORD_SIZE INTERRUPT_RETURN

-- the priority of the vector, in supervisor mode, interrupted, and without trace
abbrev pub interrupt_pc : ℕ → ℕ
interrupt_pc v = vector_priority v * 2 ^ PRIORITY_PLACE + 2 ^ INTERRUPTED_PLACE + 2 ^ SUPERVISOR_PLACE

-- the record below the handler's frame: the controls before the entry, and the vector
abbrev pub interrupt_record : ℕ → ℕ → ℕ → List ℕ
interrupt_record v pc ac = pc ∷ ac ∷ v ∷ 0 ∷ []

abbrev pub record_writes : Memory → Push → List ℕ → List (ℕ × ℕ)
record_writes m push words = upwards (record_address push.frame) (bytes_of_words m (record_address push.frame) words)

-- What is read of the requests after the push and its record: bytes of the saved frame are soft then, and are not read.
abbrev pub cleared_hazard : Memory → Frames → ℕ → Chosen → Push → List ℕ → Option ℕ
cleared_hazard m f table c push words =
    clearing_hazard c.cause (with_writes m (record_writes m push words))
    (wrote (saved f push.save) (record_writes m push words)) table c.vector

-- the accesses of an entry: the word of its vector, what is checked of the push, its record, and what clears its
-- request
unfoldable pub interrupt_hazard : Memory → Frames → ℕ → Chosen → Push → List ℕ → Option ℕ → Option ℕ
interrupt_hazard m f table c push words area =
    or_else (read_hazard f (vector_place table c.vector) 4)
    (or_else area
    (or_else (record_write_hazard f push) (cleared_hazard m f table c push words)))

abbrev pub interrupt_entry : Memory → ℕ → Chosen → Push → List ℕ → Entry
interrupt_entry m table c push words = record {
  push = push;
  target = aligned (word_in m (vector_place table c.vector));
  pc = interrupt_pc c.vector;
  words = words;
}

-- what the entry of an interrupt makes, with these arithmetic controls, or the hazard that it meets
unfoldable pub planned_interrupt_by : Caller → ℕ → ℕ → Chosen → ℕ → (Bool → Option ℕ) → Result Entry ℕ
planned_interrupt_by from table stack c ac area =
    let push = interrupt_push stack from.pc from.fp from.sp in
    let words = interrupt_record c.vector from.pc ac in
    unless (interrupt_hazard from.memory from.frames table c push words (area (not (bit from.pc INTERRUPTED_PLACE))))
    (interrupt_entry from.memory table c push words)

-- of the push, the save area is checked alone
abbrev pub planned_interrupt : Caller → ℕ → ℕ → Chosen → ℕ → Result Entry ℕ
planned_interrupt from table stack c ac = planned_interrupt_by from table stack c ac (save_area from.frames from.fp)
