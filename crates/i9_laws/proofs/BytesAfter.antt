-- Along every run of a schedule's plan bytes of memory are below 256, where the bytes of the image are.
use Rattle.std.proofs.Common.{◌≡◌, ℕ, ◌+◌, ◌-◌, ◌%◌, ◌^◌, ◌<◌, Bool, true, false, cond, List, [], ◌∷◌, Option, Some, None, arith}
use Rattle.std.specs.Prelude.{slice_index, ◌==◌, ◌||◌}
use Rattle.std.proofs.lemmas.Nat.{and_le_l, or_of_8, pow_below}
use Rattle.i9_isa.specs.declared.op.Op.{Op}
use Rattle.i9_isa.specs.declared.op.Op.TheVariants.{Atadd, Atmod, Sysctl}
use Rattle.i9_isa.specs.declared.size.Size.{Size}
use Rattle.i9_isa.specs.declared.size.Size.TheVariants.{Byte, Half, Words}
use Rattle.i9_isa.specs.declared.size.Direction.{Direction}
use Rattle.i9_isa.specs.declared.size.Direction.TheVariants.{Load, Store}
use Rattle.i9_isa.specs.declared.size.Transfer.{Transfer}
use Rattle.i9_isa.specs.declared.inst.Operand.{Operand}
use Rattle.i9_isa.specs.declared.inst.Inst.{Inst}
use Rattle.i9_isa.specs.Transfers.{transfer_of}
use Rattle.i9_model.specs.declared.push.Push.{Push}
use Rattle.i9_model.specs.declared.interrupts.Cause.{Cause}
use Rattle.i9_model.specs.declared.interrupts.Cause.TheVariants.{Soft}
use Rattle.i9_model.specs.declared.event.Event.{Event}
use Rattle.i9_model.specs.declared.event.Event.TheVariants as events
use Rattle.i9_model.specs.declared.run.Due.{Due}
use Rattle.i9_model.specs.Events.{IsInRange}
use Rattle.i9_model.specs.ScheduleText.{IsPlan}
use Rattle.i9_model.specs.Writes.{wrapped}
use Rattle.i9_model.specs.Memory.{Memory, word_in, word_bytes, with_writes}
use Rattle.i9_model.specs.Boot.{boot_memory, configured, with_boot_bytes}
use Rattle.i9_model.specs.State.{State, Channel, image_memory, started, boot}
use Rattle.i9_model.specs.Frames.{places}
use Rattle.i9_model.specs.Stale.{legible, mark_of}
use Rattle.i9_model.specs.Operands.{value, source_words, address}
use Rattle.i9_model.specs.Branches.{asks, question_of}
use Rattle.i9_model.specs.Calls.{record_address}
use Rattle.i9_model.specs.Interrupts.{with_bit, without_bit, vector_priority, priority_place, pending_place, request_writes, left_pending, priority_writes, taken_writes, clearing_writes, record_writes}
use Rattle.i9_model.specs.Step.{Move, Saves, Action, stored_of, bytes_of_words, moving, merged, atomic, atomic_address, branching, resulting, answer_in, Message, AsksInterrupt, asked_message, argument_of, message_action, action_by_name, action_by, action_of, memory_after, moved}
use Rattle.i9_model.specs.Dma.{unit_length, unit_bytes}
use Rattle.i9_model.specs.Before.{Received}
use Rattle.i9_model.specs.Run.{Given, Record, Kind, Instruction, Faulted, Entered, Interrupted, Reached, action_by_kind, due_after, event_after, state_after, IsPast}
use Rattle.i9_past.proofs.Comes.{MayCome, next_comes}
use Rattle.i9_laws.specs.Kept.{HasBytes}
use Rattle.i9_laws.proofs.EventCases.{event_range, IsByUnit, IsByEvent, received_as}
use Rattle.i9_laws.proofs.StoredWords.{ArePut, AreBelow, all_append, put_pairs, all_map, below_take, stored_below, word_bytes_below, half_bytes_below, words_bytes_below, with_words_below}

abbrev pub AreBytes : Memory → Type 0
AreBytes m = (x : ℕ) → m.bytes x < 256

-- ---- loads, stores and atomics

stored_bytes : (size : Size) (s : State) (o : Operand) (a : ℕ) → AreBelow 256 (stored_of size s o a)
stored_bytes Byte s o a = (omega arith, tt)
stored_bytes Half s o a = half_bytes_below s.memory a (value s o % 2 ^ 16)
stored_bytes (Words n) s o a = words_bytes_below s.memory a (source_words s o n)

moving_stores : (d : Direction) (size : Size) (signed : Bool) (i : Inst) (s : State) → ArePut 256 (moving d size signed i s).writes
moving_stores Load size signed i s = tt
moving_stores Store size signed i s =
    let a = address s i.ea in
    put_pairs 256 wrapped a (stored_of size s i.c a) (stored_bytes size s i.c a)

atomic_stores : (i : Inst) (s : State) (marked : Bool) (change : ℕ → ℕ) → ArePut 256 (atomic i s marked change).writes
atomic_stores i s marked change =
    let a = atomic_address i s in
    let new = change (word_in (legible s) a) in
    put_pairs 256 wrapped a (word_bytes s.memory a new) (word_bytes_below s.memory a new)

-- ---- requests of software

-- a bit of a byte
with_bit_byte : (b k : ℕ) → b < 256 → k < 8 → with_bit b k < 256
with_bit_byte b k h less = or_of_8 b (2 ^ k) h (pow_below k 8 less)

without_bit_byte : (b k : ℕ) → b < 256 → without_bit b k < 256
without_bit_byte b k h = let most = and_le_l b (2 ^ 32 - 1 - 2 ^ k) in omega (arith, most, h)

request_stores : (m : Memory) (table v : ℕ) → AreBytes m → ArePut 256 (request_writes m table v)
unfolding request_writes
request_stores m table v h = (
  with_bit_byte (m.bytes (priority_place table v)) (vector_priority v % 8) (h (priority_place table v)) (omega arith),
  (with_bit_byte (m.bytes (pending_place table v)) (v % 8) (h (pending_place table v)) (omega arith), tt),
)

priority_stores : (m : Memory) (table v : ℕ) → AreBytes m → ArePut 256 (priority_writes m table v)
priority_stores m table v h = by_left (left_pending m table v == 0)
  where
    at : ℕ
    at = priority_place table v

    by_left : (b : Bool) → ArePut 256 (cond b ((at, without_bit (m.bytes at) (vector_priority v % 8)) ∷ []) [])
    by_left true = (without_bit_byte (m.bytes at) (vector_priority v % 8) (h at), tt)
    by_left false = tt

clearing_stores : (c : Cause) (m : Memory) (table v : ℕ) → AreBytes m → ArePut 256 (clearing_writes c m table v)
unfolding taken_writes
clearing_stores Soft m table v h =
    let at = pending_place table v in
    all_append (λ p. p.1 < 256) (priority_writes m table v) ((at, left_pending m table v) ∷ [])
    (priority_stores m table v h)
    (without_bit_byte (m.bytes at) (v % 8) (h at), tt)
clearing_stores _ m table v h = tt

message_stores : (m : Message) (i : Inst) (s : State) → AreBytes s.memory → ArePut 256 (message_action m i s).writes
message_stores AsksInterrupt i s h = request_stores s.memory s.tables.interrupt_table (argument_of i s) h
message_stores m i s h = tt

-- ---- a record

other_stores : (b : Bool) (i : Inst) (s : State) → ArePut 256 (cond b (branching i s) (resulting i s (answer_in i s))).writes
other_stores true i s = tt
other_stores false i s = tt

name_stores : (op : Op) (i : Inst) (s : State) → AreBytes s.memory → ArePut 256 (action_by_name op i s).writes
name_stores Atadd i s h = atomic_stores i s (mark_of s i.b 0) (λ old. wrapped (old + value s i.b))
name_stores Atmod i s h = atomic_stores i s (mark_of s i.b 0 || mark_of s i.c 0) (λ old. merged old (value s i.b) (value s i.c))
name_stores Sysctl i s h = message_stores (asked_message i s) i s h
name_stores op i s h = other_stores (asks (question_of op)) i s

instruction_stores : (i : Inst) (s : State) → AreBytes s.memory → ArePut 256 (action_of i s).writes
unfolding action_of
instruction_stores i s h = by_transfer (transfer_of i.op)
  where
    by_transfer : (o : Option Transfer) → ArePut 256 (action_by o i s).writes
    by_transfer (Some t) = moving_stores t.direction t.size t.signed i s
    by_transfer None = name_stores i.op i s h

-- the words of a record
record_stores : (m : Memory) (push : Push) (words : List ℕ) → ArePut 256 (record_writes m push words)
record_stores m push words =
    let a = record_address push.frame in
    put_pairs 256 wrapped a (bytes_of_words m a words) (words_bytes_below m a words)

-- ---- an event

abbrev ReceivesBytes : Received → Type 0
ReceivesBytes u = ArePut 256 u.writes

-- the bytes of a device
abbrev AreGiven : Option (List ℕ) → Type 0
AreGiven None = Unit {0}
AreGiven (Some given) = (k : ℕ) → slice_index given k < 256

moved_stores : (m : Memory) (c : Channel) (given : Option (List ℕ)) → AreGiven given → AreBytes m → AreBelow 256 (unit_bytes m c given)
unfolding unit_bytes
moved_stores m c None bytes h = all_map (λ v. v < 256) m.bytes (places c.source (unit_length c)) h
moved_stores m c (Some given) bytes h = below_take 256 (unit_length c) given bytes

unit_stores : (s : State) (c : ℕ) (given : Option (List ℕ)) → AreGiven given → AreBytes s.memory → IsByUnit ReceivesBytes s c given
unit_stores s c given bytes h =
    let channel = s.dma.channels c in
    (tt, put_pairs 256 wrapped channel.target (unit_bytes s.memory channel given) (moved_stores s.memory channel given bytes h))

event_stores : (s : State) (e : Event) → IsInRange e → AreBytes s.memory → IsByEvent ReceivesBytes s e
event_stores s (events.Dma c) range h = unit_stores s c None tt h
event_stores s (events.Feed c bytes) range h = unit_stores s c (Some bytes.items) range.2 h
event_stores s _ range h = tt

-- ---- what comes next

kind_stores : (limit : ℕ) (due : Due) (stands : Option Event) (k : Kind) (s : State) → ((e : Event) → stands ≡ Some e → IsInRange e)
    → MayCome limit due stands s k → AreBytes s.memory → ArePut 256 (action_by_kind k s).writes
kind_stores limit due stands (Instruction i) s range may h = instruction_stores i s h
kind_stores limit due stands (Faulted inst fault) s range may h = tt
kind_stores limit due stands (Entered e) s range may h = record_stores s.memory e.push e.words
kind_stores limit due stands (Interrupted c e) s range may h =
    let recorded = record_writes s.memory e.push e.words in
    let m = with_writes s.memory recorded in
    let stores = record_stores s.memory e.push e.words in
    all_append (λ p. p.1 < 256) recorded (clearing_writes c.cause m s.tables.interrupt_table c.vector) stores
    (clearing_stores c.cause m s.tables.interrupt_table c.vector (stored_below s.memory.bytes recorded h stores))
kind_stores limit due stands (Reached e u) s range may h =
    received_as ReceivesBytes s e u (event_stores s e (range e may.2) h) may.3

-- ---- the state after it

move_bytes : (v : Move) (m : Memory) → AreBytes m → AreBytes (memory_after m v)
move_bytes (Saves save words) m h = with_words_below m save words h
move_bytes _ m h = h

pub moved_bytes : (s : State) (a : Action) → AreBytes s.memory → ArePut 256 a.writes → AreBytes (moved s a).memory
unfolding moved
moved_bytes s a h stores = stored_below (memory_after s.memory a.move).bytes a.writes (move_bytes a.move s.memory h) stores

-- ---- a run

pub image_bytes : (image : List (ℕ × ℕ)) → HasBytes image → AreBytes (image_memory image)
image_bytes image h = stored_below (λ _. 0) image (λ x. omega arith) h

pub boot_bytes : (image : List (ℕ × ℕ)) → HasBytes image → AreBytes (boot image).memory
unfolding boot started boot_memory configured with_boot_bytes
boot_bytes image h = image_bytes image h

-- what comes next writes bytes
pub done_stores : (g : Given) (r : Record) (rs : List Record) → IsPlan g.plan → IsPast g (r ∷ rs) → AreBytes (state_after g rs).memory
    → ArePut 256 (action_by_kind r.kind (state_after g rs)).writes
done_stores g r rs plan past h =
    let s = state_after g rs in
    let event = event_after g rs in
    let range = λ (e : Event) (is : event ≡ Some e). event_range g rs e plan is in
    let comes = next_comes g.length (due_after rs) event s r past.1 in
    kind_stores g.length (due_after rs) event r.kind s range comes.1 h
