-- What is done without a hazard is free, and frames along a run are sound.
use Rattle.std.proofs.Common.{◌≡◌, ℕ, ◌+◌, ◌*◌, ◌/◌, ◌%◌, Bool, false, cond, List, [], ◌∷◌, ◌++◌, length, find, Option, Some, None, refl, ap, ◌∙◌, arith}
use Rattle.std.specs.Prelude.{◌||◌}
use Rattle.i9_isa.specs.declared.op.Op.{Op}
use Rattle.i9_isa.specs.declared.op.Op.TheVariants.{Atadd, Atmod, Call, Callx, Calls, Ret, Flushreg, Sysctl}
use Rattle.i9_isa.specs.declared.size.Size.{Size}
use Rattle.i9_isa.specs.declared.size.Direction.{Direction}
use Rattle.i9_isa.specs.declared.size.Transfer.{Transfer}
use Rattle.i9_isa.specs.declared.inst.Inst.{Inst}
use Rattle.i9_isa.specs.Transfers.{byte_count, transfer_of}
use Rattle.i9_model.specs.Writes.{wrapped, places_of, upwards}
use Rattle.i9_model.specs.Memory.{Memory, with_writes}
use Rattle.i9_model.specs.State.{State, Frames, started, boot}
use Rattle.i9_model.specs.Hazards.{or_else, read_hazard, write_hazard, writes_hazard, port_hazard, save_hazard}
use Rattle.i9_model.specs.Operands.{value, address}
use Rattle.i9_model.specs.Step.{Move, Saves, Returns, Flushes, Action, bytes_of_words, moving, merged, atomic_address, atomic, Message, asked_message, message_action, entering, action_by_name, action_by, action_of, frames_after, moved, acted}
use Rattle.i9_model.specs.Access.{Changes, message_access, moved_access, access_by_name, access_by, hazard_in, hazard_of}
use Rattle.i9_model.specs.Sound.{IsSound}
use Rattle.std.proofs.lemmas.Bool.{or_left, or_from}
use Rattle.i9_model.specs.Free.{IsFree}
use Rattle.i9_model.specs.Run.{Given, Instruction, Faulted, Entered, Interrupted, Reached, Kind, action_by_kind, Record, Does, entry_in, state_after, due_after, next_in, next_with, IsPastOfSome}
use Rattle.i9_model.specs.declared.run.Due.{Due}
use Rattle.i9_model.specs.declared.layout.TheConstants.{FP}
use Rattle.i9_model.specs.declared.faults.Entry.{Entry}
use Rattle.i9_model.specs.declared.interrupts.Chosen.{Chosen}
use Rattle.i9_model.specs.declared.event.Event.{Event}
use Rattle.i9_model.specs.declared.interrupts.Cause.{Cause}
use Rattle.i9_model.specs.declared.interrupts.TheConstants.{PENDING_VECTORS}
use Rattle.i9_model.specs.Frames.{in_frames, has, saved, with_marked, wrote, rounded_down}
use Rattle.i9_model.specs.Interrupts.{vector_priority, with_bit, byte_hazard, request_hazard, request_writes, priority_place, pending_place, priority_writes, taken_writes, priority_hazard, taken_hazard, clearing_writes, clearing_hazard, record_writes}
use Rattle.i9_model.specs.Before.{entry_writes, interrupting}
use Rattle.i9_model.specs.Calls.{caller_in, record_address}
use Rattle.i9_agree.proofs.Units.{no_writes, received_free}
use Rattle.i9_model.specs.Stale.{mark_of, push_mark, area_hazard}
use Rattle.i9_model.proofs.SavedMarks.{IsLost, saved-lost, returns-live}
use Rattle.i9_model.proofs.CallLaws.{first_none, second_none, system_checks, system_save, EntersFree, enters_free_by}
use Rattle.i9_model.proofs.ControlLaws.{acted-frames}
use Rattle.i9_model.proofs.FrameLaws.{write_hazard-none, save_hazard-none, sound-none, sound-saved, sound-returned, sound-flushed, sound-wrote, sound-softened, sound-marked}
use Rattle.i9_model.proofs.Runs.{writes_hazard-upwards}
use Rattle.i9_past.proofs.Comes.{MayCome, next_comes}
use Rattle.i9_agree.proofs.InterruptsFree.{InterruptsFree, interrupts_free}
use Rattle.i9_model.proofs.Lengths.{four_bytes, words_long, stored_long}

-- ---- what is done without a hazard

-- the save area is checked with a push
pub area_save : (s : State) (b : Bool) → area_hazard s b ≡ None → save_hazard s.frames (rounded_down (s.regs FP)) ≡ None
area_save s b none = second_none (push_mark s b) (save_hazard s.frames (rounded_down (s.regs FP))) none

-- a frame is saved without a hazard
abbrev pub IsSafe : Frames → Move → Type 0
IsSafe f (Saves save words) = save_hazard f save ≡ None
IsSafe f _ = Unit {0}

pub record IsClear (s : State) (a : Action) : Type 0 where
  pub save : IsSafe s.frames a.move
  pub free : IsFree s a

-- so many bytes are written beside live frames
run_free : (f : Frames) (a : ℕ) (bs : List ℕ) (n : ℕ) → length bs ≡ n → write_hazard f a n ≡ None → writes_hazard f (upwards a bs) ≡ None
run_free f a bs n long none = writes_hazard-upwards f a bs ∙ ap (write_hazard f a) long ∙ none

moving_clear : (d : Direction) (size : Size) (signed : Bool) (i : Inst) (s : State) → hazard_in s (moved_access d (address s i.ea) (byte_count size)) ≡ None → IsClear s (moving d size signed i s)
moving_clear d size signed i s none = grind (arith, no_writes, writes_hazard-upwards, stored_long)

atomic_clear : (i : Inst) (s : State) (b : Bool) (change : ℕ → ℕ) → hazard_in s (Changes (atomic_address i s) 4) ≡ None → IsClear s (atomic i s b change)
atomic_clear i s b change none = grind (arith, writes_hazard-upwards, four_bytes)

-- ---- bytes that are written alone

pub writes_append : (f : Frames) (ps qs : List (ℕ × ℕ)) → writes_hazard f ps ≡ None → writes_hazard f qs ≡ None → writes_hazard f (ps ++ qs) ≡ None
unfolding writes_hazard
writes_append f [] qs one two = two
writes_append f (p ∷ ps) qs one two = by_live (in_frames f.live p.0) one (λ later. writes_append f ps qs later two)
  where
    by_live : (b : Bool) → cond b (Some p.0) (find (in_frames f.live) (places_of ps)) ≡ None → (find (in_frames f.live) (places_of ps) ≡ None → find (in_frames f.live) (places_of (ps ++ qs)) ≡ None)
        → cond b (Some p.0) (find (in_frames f.live) (places_of (ps ++ qs))) ≡ None
    by_live b e later = grind arith

-- one byte is written beside live frames
byte_free : (f : Frames) (a v : ℕ) → byte_hazard f (wrapped a) ≡ None → writes_hazard f ((wrapped a, v) ∷ []) ≡ None
byte_free f a v none =
    let same : wrapped (wrapped a) ≡ wrapped a = omega arith in
    rw same at (run_free f (wrapped a) (v ∷ []) 1 refl (first_none (write_hazard f (wrapped a) 1) (port_hazard (wrapped a) 1) none))

-- a request is written beside live frames
pub request_free : (m : Memory) (f : Frames) (table v : ℕ) → request_hazard f table v ≡ None → writes_hazard f (request_writes m table v) ≡ None
unfolding request_hazard request_writes
request_free m f table v none =
    let one = read_hazard f (priority_place table v) 1 in
    let two = read_hazard f (pending_place table v) 1 in
    let first = byte_hazard f (priority_place table v) in
    let second = byte_hazard f (pending_place table v) in
    let written = second_none two (or_else first second) (second_none one (or_else two (or_else first second)) none) in
    let byte = with_bit (m.bytes (priority_place table v)) (vector_priority v % 8) in
    writes_append f ((priority_place table v, byte) ∷ []) ((pending_place table v, with_bit (m.bytes (pending_place table v)) (v % 8)) ∷ [])
    (byte_free f (table + vector_priority v / 8) byte (first_none first second written))
    (byte_free f (table + (PENDING_VECTORS + v / 8)) (with_bit (m.bytes (pending_place table v)) (v % 8)) (second_none first second written))

message_clear : (m : Message) (i : Inst) (s : State) → hazard_in s (message_access m i s) ≡ None → IsClear s (message_action m i s)
message_clear m i s none = grind (arith, request_free, no_writes)

calls_save : (i : Inst) (s : State) → hazard_in s (access_by_name Calls i s) ≡ None → IsSafe s.frames (action_by_name Calls i s).move
calls_save i s none = grind (arith, system_save, area_save, system_checks)

name_clear : (op : Op) (i : Inst) (s : State) → hazard_in s (access_by_name op i s) ≡ None → IsClear s (action_by_name op i s)
name_clear Atadd i s none = atomic_clear i s (mark_of s i.b 0) (λ old. wrapped (old + value s i.b)) none
name_clear Atmod i s none = atomic_clear i s (mark_of s i.b 0 || mark_of s i.c 0) (λ old. merged old (value s i.b) (value s i.c)) none
name_clear Call i s none = record { save = area_save s false none; free = record { whole = refl; free = no_writes (frames_after s.frames (action_by_name Call i s).move); controls = tt } }
name_clear Callx i s none = record { save = area_save s false none; free = record { whole = refl; free = no_writes (frames_after s.frames (action_by_name Callx i s).move); controls = tt } }
name_clear Calls i s none = record { save = calls_save i s none; free = record { whole = refl; free = no_writes (frames_after s.frames (action_by_name Calls i s).move); controls = tt } }
name_clear Ret i s none = record { save = tt; free = record { whole = tt; free = no_writes (frames_after s.frames Returns); controls = tt } }
name_clear Flushreg i s none = record { save = tt; free = record { whole = tt; free = no_writes (frames_after s.frames Flushes); controls = tt } }
name_clear Sysctl i s none = message_clear (asked_message i s) i s none
name_clear _ i s none = record { save = tt; free = record { whole = tt; free = no_writes s.frames; controls = tt } }

-- an instruction whose access meets no hazard
pub action_clear : (i : Inst) (s : State) → hazard_of i s ≡ None → IsClear s (action_of i s)
unfolding hazard_of action_of
action_clear i s none = by_transfer (transfer_of i.op) none
  where
    by_transfer : (o : Option Transfer) → hazard_in s (access_by o i s) ≡ None → IsClear s (action_by o i s)
    by_transfer (Some t) e = moving_clear t.direction t.size t.signed i s e
    by_transfer None e = name_clear i.op i s e

-- the entry of a fault saves a frame and then stores its record
entering_clear : (s : State) (e : Entry) → EntersFree s.frames e → IsClear s (entering e s)
entering_clear s e free = grind (arith, words_long, writes_hazard-upwards)

-- ---- the entry of an interrupt

priority_free : (m : Memory) (f : Frames) (table v : ℕ) → priority_hazard m f table v ≡ None → writes_hazard f (priority_writes m table v) ≡ None
priority_free m f table v none = grind (arith, byte_free, no_writes)

taken_free : (m : Memory) (f : Frames) (table v : ℕ) → taken_hazard m f table v ≡ None → writes_hazard f (taken_writes m table v) ≡ None
unfolding taken_hazard taken_writes
taken_free m f table v none = grind (arith, second_none, writes_append, priority_free, first_none, byte_free)

clearing_free : (cause : Cause) (m : Memory) (f : Frames) (table v : ℕ) → clearing_hazard cause m f table v ≡ None → writes_hazard f (clearing_writes cause m table v) ≡ None
clearing_free cause m f table v none = grind (arith, taken_free, no_writes)

-- it saves a frame, stores its record, and then clears what chose it
entry_free : (s : State) (c : Chosen) (e : Entry) → InterruptsFree s c e → writes_hazard (saved s.frames e.push.save) (entry_writes s c e) ≡ None
unfolding writes_hazard
entry_free s c e free =
    let m = s.memory in
    let a = record_address e.push.frame in
    let bs = bytes_of_words m a e.words in
    let long : length bs ≡ 16 = words_long m a e.words ∙ ap (λ (n : ℕ). 4 * n) free.enters.four in
    let recorded = record_writes m e.push e.words in
    let saves = saved s.frames e.push.save in
    writes_append saves recorded (clearing_writes c.cause (with_writes m recorded) s.tables.interrupt_table c.vector)
    (run_free saves a bs 16 long free.enters.record_free)
    (clearing_free c.cause (with_writes m recorded) (wrote saves recorded) s.tables.interrupt_table c.vector free.clears)

interrupting_clear : (s : State) (c : Chosen) (e : Entry) → InterruptsFree s c e → IsClear s (interrupting c e s)
interrupting_clear s c e free = record { save = free.enters.save; free = record { whole = refl; free = entry_free s c e free; controls = tt } }

-- what comes next
pub kind_clear : (limit : ℕ) (due : Due) (stands : Option Event) (k : Kind) (s : State) → MayCome limit due stands s k → IsClear s (action_by_kind k s)
unfolding entry_in
kind_clear limit due stands (Instruction i) s may = let clear = action_clear i s may.2 in record { save = clear.save; free = record { whole = clear.free.whole; free = clear.free.free; controls = clear.free.controls } }
kind_clear limit due stands (Faulted inst fault) s may = record { save = tt; free = record { whole = tt; free = no_writes s.frames; controls = tt } }
kind_clear limit due stands (Entered e) s may =
    entering_clear s e (enters_free_by (caller_in s) s.tables.fault_table s.tables.system_table may.0 s.ac (area_hazard s) e (area_save s) may.2)
kind_clear limit due stands (Interrupted c e) s may = interrupting_clear s c e (interrupts_free s c e may.3)
kind_clear limit due stands (Reached e u) s may = record { save = tt; free = record { whole = tt; free = received_free s e u may.3; controls = tt } }

-- ---- frames along a run

-- ---- the marks of a saved frame

-- an action that saves no frame has no marks of one
abbrev pub IsLostOf : Move → List ℕ → Type 0
IsLostOf (Saves a ws) lost = IsLost a lost
IsLostOf _ lost = lost ≡ []

pub action_lost : (i : Inst) (s : State) → IsLostOf (action_of i s).move (action_of i s).lost
unfolding action_of
action_lost i s = grind (arith, saved-lost)

kind_lost : (k : Kind) (s : State) → IsLostOf (action_by_kind k s).move (action_by_kind k s).lost
kind_lost k s = grind (arith, action_lost, saved-lost)

-- they are in the frame that is saved, which lies beside the others
pub sound-lost : (v : Move) (f : Frames) (lost : List ℕ) → IsSafe f v → IsLostOf v lost → IsSound (frames_after f v) → IsSound (with_marked (frames_after f v) lost)
sound-lost v f lost safe is sound =
    grind (arith, sound-marked, or_left, write_hazard-none, save_hazard-none, returns-live, or_from)

sound-acted : (s : State) (a : Action) → IsClear s a → IsLostOf a.move a.lost → IsSound s.frames → IsSound (acted s a).frames
unfolding moved writes_hazard
sound-acted s a clear lost sound =
    grind (arith, acted-frames, sound-softened, sound-wrote, sound-lost, sound-saved, sound-returned, sound-flushed)

next_sound : (limit : ℕ) (due : Due) (stands : Option Event) (s : State) (r : Record) → IsSound s.frames → next_in limit due stands s ≡ Does r → IsSound r.after.frames
next_sound limit due stands s r sound e =
    let comes = next_comes limit due stands s r e in
    rw comes.0 (sound-acted s (action_by_kind r.kind s) (kind_clear limit due stands r.kind s comes.1) (kind_lost r.kind s) sound)

sound-boot : (image : List (ℕ × ℕ)) → IsSound (boot image).frames
unfolding boot started
sound-boot image = sound-none

-- frames are sound after each record of a run, whatever events it meets
pub sound-after : (g : Given) (rs : List Record) → IsPastOfSome (next_with g) rs → IsSound (state_after g rs).frames
sound-after g [] past = sound-boot g.image
sound-after g (r ∷ rs) past = next_sound g.length (due_after rs) past.1.0 (state_after g rs) r (sound-after g rs past.0) past.1.1
