-- In states that are alike the same interrupt is chosen, and its entry is the same.
use Rattle.std.proofs.Common.{◌≡◌, ℕ, ◌+◌, ◌/◌, ◌%◌, ◌<◌, Bool, true, false, cond, List, Option, Some, None, refl, ap, ◌∙◌, arith}
use Rattle.std.specs.Prelude.{not, ◌||◌, nat_le}
use Rattle.i9_isa.specs.Words.{bit}
use Rattle.i9_model.specs.declared.layout.TheConstants.{RECORD_SIZE, INTERRUPT_RETURN}
use Rattle.i9_model.specs.declared.push.Push.{Push}
use Rattle.i9_model.specs.declared.faults.Entry.{Entry}
use Rattle.i9_model.specs.declared.interrupts.Cause.{Cause}
use Rattle.i9_model.specs.declared.interrupts.Chosen.{Chosen}
use Rattle.i9_model.specs.declared.interrupts.TheConstants.{PENDING_SIZE, PENDING_VECTORS, INTERRUPTED_PLACE}
use Rattle.i9_model.specs.Writes.{address_count, upwards}
use Rattle.i9_model.specs.Memory.{Memory, in_port_page, stored, with_writes}
use Rattle.i9_model.specs.State.{State, Frames, Interrupts}
use Rattle.i9_model.specs.Frames.{is_put, saved, wrote, record_address, pushed}
use Rattle.i9_model.specs.Calls.{Caller, save_area}
use Rattle.i9_model.specs.Hazards.{or_else, unless, read_hazard, record_write_hazard}
use Rattle.i9_model.specs.Interrupts.{vector_priority, priority_place, pending_place, is_requested, chosen_of, chosen, chosen_soft, without_bit, byte_hazard, left_pending, taken_writes, priority_hazard, taken_hazard, clearing_writes, clearing_hazard, vector_place, interrupt_push, interrupt_record, record_writes, cleared_hazard, interrupt_hazard, interrupt_entry, planned_interrupt, planned_interrupt_by}
use Rattle.i9_model.specs.Before.{choice_in, entry_writes}
use Rattle.i9_model.specs.Alike.{is_hard, AgreeWhere, with_other, with_memory}
use Rattle.i9_model.proofs.CallLaws.{first_none, second_none}
use Rattle.i9_model.proofs.Readings.{byte_same, first_same, word_same}
use Rattle.i9_model.proofs.Storing.{stored_agree, stored_words_same}
use Rattle.i9_agree.proofs.AlikeActions.{or_else_same, AreKnown, other_caller}
use Rattle.i9_agree.proofs.AlikeFetches.{unless_same}
use Rattle.i9_agree.proofs.AlikeChoices.{chosen_of_same}
use Rattle.i9_agree.proofs.InterruptsFree.{InterruptsFree}

-- ---- the choice

requested_same : (f : Frames) (m : Memory) (bytes : ℕ → ℕ) (table v : ℕ) → AgreeWhere (is_hard f) m bytes → read_hazard f table PENDING_SIZE ≡ None → v < 256 → is_requested (with_other m bytes) table v ≡ is_requested m table v
requested_same f m bytes table v same none h =
    let one : bytes (priority_place table v) ≡ m.bytes (priority_place table v) = byte_same f m bytes table PENDING_SIZE (vector_priority v / 8) same none (omega arith) in
    let two : bytes (pending_place table v) ≡ m.bytes (pending_place table v) = byte_same f m bytes table PENDING_SIZE (PENDING_VECTORS + v / 8) same none (omega arith) in
    rw (one, two) refl

pub chosen_soft_same : (i : Interrupts) (f : Frames) (m : Memory) (bytes : ℕ → ℕ) (table pc : ℕ) → AgreeWhere (is_hard f) m bytes → chosen_soft i (with_other m bytes) f table pc ≡ chosen_soft i m f table pc
chosen_soft_same i f m bytes table pc same =
    unless_same (read_hazard f table PENDING_SIZE) (chosen_of i (is_requested m table) pc) (chosen_of i (is_requested (with_other m bytes) table) pc) (λ none.
    chosen_of_same i pc (is_requested (with_other m bytes) table) (is_requested m table) (λ v h. requested_same f m bytes table v same none h))

pub choice_same : (s : State) (bytes : ℕ → ℕ) → AgreeWhere (is_hard s.frames) s.memory bytes → choice_in (with_memory s bytes) ≡ choice_in s
unfolding choice_in
choice_same s bytes same = grind (arith, chosen_soft_same)

-- ---- what clears the request

-- the byte at a place that is read
read_byte : (f : Frames) (m : Memory) (bytes : ℕ → ℕ) (a : ℕ) → AgreeWhere (is_hard f) m bytes → read_hazard f a 1 ≡ None → bytes a ≡ m.bytes a
read_byte f m bytes a same none = first_same f m bytes a 1 same none (omega arith)

left_same : (f : Frames) (m : Memory) (bytes : ℕ → ℕ) (table v : ℕ) → AgreeWhere (is_hard f) m bytes → read_hazard f (pending_place table v) 1 ≡ None → left_pending (with_other m bytes) table v ≡ left_pending m table v
left_same f m bytes table v same none = ap (λ (b : ℕ). without_bit b (v % 8)) (read_byte f m bytes (pending_place table v) same none)

taken_hazard_same : (f : Frames) (m : Memory) (bytes : ℕ → ℕ) (table v : ℕ) → AgreeWhere (is_hard f) m bytes → taken_hazard (with_other m bytes) f table v ≡ taken_hazard m f table v
unfolding taken_hazard
taken_hazard_same f m bytes table v same = grind (arith, or_else_same, left_same)

clearing_hazard_same : (c : Cause) (f : Frames) (m : Memory) (bytes : ℕ → ℕ) (table v : ℕ) → AgreeWhere (is_hard f) m bytes → clearing_hazard c (with_other m bytes) f table v ≡ clearing_hazard c m f table v
clearing_hazard_same c f m bytes table v same = grind (arith, taken_hazard_same)

taken_writes_same : (f : Frames) (m : Memory) (bytes : ℕ → ℕ) (table v : ℕ) → AgreeWhere (is_hard f) m bytes → taken_hazard m f table v ≡ None → taken_writes (with_other m bytes) table v ≡ taken_writes m table v
unfolding taken_hazard taken_writes
taken_writes_same f m bytes table v same none =
    let one = read_hazard f (priority_place table v) 1 in
    let two = read_hazard f (pending_place table v) 1 in
    let written = or_else (priority_hazard m f table v) (byte_hazard f (pending_place table v)) in
    let left = left_same f m bytes table v same (first_none two written (second_none one (or_else two written) none)) in
    let byte = read_byte f m bytes (priority_place table v) same (first_none one (or_else two written) none) in
    rw (byte, left) refl

clearing_writes_same : (c : Cause) (f : Frames) (m : Memory) (bytes : ℕ → ℕ) (table v : ℕ) → AgreeWhere (is_hard f) m bytes → clearing_hazard c m f table v ≡ None → clearing_writes c (with_other m bytes) table v ≡ clearing_writes c m table v
clearing_writes_same c f m bytes table v same none = grind (arith, taken_writes_same)

-- ---- memory behind the push and the record

-- what may be read behind a save was so before it
saved_hard : (f : Frames) (a x : ℕ) → is_hard (saved f a) x ≡ true → is_hard f x ≡ true
saved_hard f a x h = grind arith

-- and behind writes it was, or is written
wrote_hard : (f : Frames) (ps : List (ℕ × ℕ)) (x : ℕ) → is_put ps x ≡ false → is_hard (wrote f ps) x ≡ true → is_hard f x ≡ true
wrote_hard f ps x out h = grind arith

port_hard : (f : Frames) (x : ℕ) → in_port_page x ≡ true → is_hard f x ≡ true
port_hard f x p = ap (λ (b : Bool). (b || nat_le address_count x) || not (f.soft x)) p

recorded_hard : (f : Frames) (m : Memory) (bytes : ℕ → ℕ) (save : ℕ) (ps : List (ℕ × ℕ)) → AgreeWhere (is_hard f) m bytes → AgreeWhere (is_hard (wrote (saved f save) ps)) (with_writes m ps) (stored bytes ps)
recorded_hard f m bytes save ps same = λ x h. stored_agree bytes m.bytes ps x (λ p. same x (port_hard f x p)) (λ out. same x (saved_hard f save x (wrote_hard (saved f save) ps x out h)))

records_same : (m : Memory) (bytes : ℕ → ℕ) (push : Push) (words : List ℕ) → record_writes (with_other m bytes) push words ≡ record_writes m push words
records_same m bytes push words = ap (upwards (record_address push.frame)) (stored_words_same m bytes (record_address push.frame) words)

-- ---- the entry

cleared_hazard_same : (f : Frames) (m : Memory) (bytes : ℕ → ℕ) (table : ℕ) (c : Chosen) (push : Push) (words : List ℕ) → AgreeWhere (is_hard f) m bytes → cleared_hazard (with_other m bytes) f table c push words ≡ cleared_hazard m f table c push words
cleared_hazard_same f m bytes table c push words same =
    let ps = record_writes m push words in
    ap (λ (qs : List (ℕ × ℕ)). clearing_hazard c.cause (with_writes (with_other m bytes) qs) (wrote (saved f push.save) qs) table c.vector) (records_same m bytes push words)
    ∙ clearing_hazard_same c.cause (wrote (saved f push.save) ps) (with_writes m ps) (stored bytes ps) table c.vector (recorded_hard f m bytes push.save ps same)

planned_memory_same : (f : Frames) (m : Memory) (bytes : ℕ → ℕ) (table : ℕ) (push : Push) (c : Chosen) (words : List ℕ) (area : Option ℕ) → AgreeWhere (is_hard f) m bytes
    → unless (interrupt_hazard (with_other m bytes) f table c push words area) (interrupt_entry (with_other m bytes) table c push words) ≡ unless (interrupt_hazard m f table c push words area) (interrupt_entry m table c push words)
unfolding interrupt_hazard
planned_memory_same f m bytes table push c words area same =
    grind (arith, cleared_hazard_same, unless_same, word_same, first_none)

pub planned_by_same : (from : Caller) (bytes : ℕ → ℕ) (table stack : ℕ) (c : Chosen) (ac fp sp : ℕ) (area : Bool → Option ℕ) → AgreeWhere (is_hard from.frames) from.memory bytes → AreKnown area from.fp from.sp fp sp
    → planned_interrupt_by (other_caller from bytes fp sp) table stack c ac area ≡ planned_interrupt_by from table stack c ac area
unfolding planned_interrupt_by interrupt_hazard
planned_by_same from bytes table stack c ac fp sp area same known =
    let f = from.frames in
    let n = with_other from.memory bytes in
    let words = interrupt_record c.vector from.pc ac in
    let old_push = interrupt_push stack from.pc from.fp from.sp in
    let here = area (not (bit from.pc INTERRUPTED_PLACE)) in
    let vector = read_hazard f (vector_place table c.vector) 4 in
    pushes vector here old_push (interrupt_push stack from.pc fp sp) (λ (push : Push). or_else (record_write_hazard f push) (cleared_hazard n f table c push words)) (λ (push : Push). interrupt_entry n table c push words) (λ none. push_same none)
    ∙ planned_memory_same f from.memory bytes table old_push c words here same
  where
    push_same : area (not (bit from.pc INTERRUPTED_PLACE)) ≡ None → interrupt_push stack from.pc fp sp ≡ interrupt_push stack from.pc from.fp from.sp
    push_same none =
        let push = known (not (bit from.pc INTERRUPTED_PLACE)) none in
        rw push.0 (by_stack (bit from.pc INTERRUPTED_PLACE) push.1)
      where
        by_stack : (b : Bool) → (not b ≡ false → sp ≡ from.sp) → pushed from.fp (cond b sp stack) RECORD_SIZE INTERRUPT_RETURN ≡ pushed from.fp (cond b from.sp stack) RECORD_SIZE INTERRUPT_RETURN
        by_stack true h = rw (h refl) refl
        by_stack false h = refl

    pushes : (vector here : Option ℕ) (p q : Push) (later : Push → Option ℕ) (entry : Push → Entry) → (here ≡ None → q ≡ p)
        → unless (or_else vector (or_else here (later q))) (entry q) ≡ unless (or_else vector (or_else here (later p))) (entry p)
    pushes (Some a) here p q later entry e = refl
    pushes None (Some a) p q later entry e = refl
    pushes None None p q later entry e = ap (λ (x : Push). unless (later x) (entry x)) (e refl)

pub planned_same : (from : Caller) (bytes : ℕ → ℕ) (table stack : ℕ) (c : Chosen) (ac : ℕ) → AgreeWhere (is_hard from.frames) from.memory bytes → planned_interrupt (other_caller from bytes from.fp from.sp) table stack c ac ≡ planned_interrupt from table stack c ac
planned_same from bytes table stack c ac same = planned_by_same from bytes table stack c ac from.fp from.sp (save_area from.frames from.fp) same (λ b none. (refl, λ e. refl))

-- the bytes that clear the request, behind the push and the record
pub cleared_same : (f : Frames) (m : Memory) (bytes : ℕ → ℕ) (table : ℕ) (c : Chosen) (push : Push) (words : List ℕ) → AgreeWhere (is_hard f) m bytes → cleared_hazard m f table c push words ≡ None
    → clearing_writes c.cause (with_writes (with_other m bytes) (record_writes (with_other m bytes) push words)) table c.vector ≡ clearing_writes c.cause (with_writes m (record_writes m push words)) table c.vector
cleared_same f m bytes table c push words same none =
    let ps = record_writes m push words in
    ap (λ (qs : List (ℕ × ℕ)). clearing_writes c.cause (with_writes (with_other m bytes) qs) table c.vector) (records_same m bytes push words)
    ∙ clearing_writes_same c.cause (wrote (saved f push.save) ps) (with_writes m ps) (stored bytes ps) table c.vector (recorded_hard f m bytes push.save ps same) none

pub entry_writes_same : (s : State) (bytes : ℕ → ℕ) (c : Chosen) (e : Entry) → AgreeWhere (is_hard s.frames) s.memory bytes → InterruptsFree s c e → entry_writes (with_memory s bytes) c e ≡ entry_writes s c e
entry_writes_same s bytes c e same free =
    let m = s.memory in
    let n = with_other m bytes in
    let table = s.tables.interrupt_table in
    let ps = record_writes m e.push e.words in
    rw (cleared_same s.frames m bytes table c e.push e.words same free.clears, records_same m bytes e.push e.words) refl
