-- What a system call and the entry of a fault enter: a procedure on the stack in use, or one on the supervisor stack, by
-- words of memory; and what the entry of an interrupt makes.
use Rattle.std.proofs.Common.{◌≡◌, ℕ, Bool, true, false, cond, Option, None, Ok, Err, subst}
use Rattle.std.specs.Prelude.{◌+◌, ◌/◌, ◌%◌, ◌==◌, not, nat_le, List}
use Rattle.i9_isa.specs.declared.inst.Inst.{Inst}
use Rattle.i9_model.specs.declared.layout.TheConstants.{FP, SP, RECORD_SIZE, FAULT_RETURN, MOST_SYSTEM_CALL}
use Rattle.i9_model.specs.declared.calls.Sys.{Sys}
use Rattle.i9_model.specs.declared.faults.TheConstants.{SYSTEM_ENTRY}
use Rattle.i9_model.specs.declared.faults.Fault.{Fault}
use Rattle.i9_model.specs.declared.faults.Entry.{Entry}
use Rattle.i9_model.specs.declared.faults.Handler.{Handler}
use Rattle.i9_model.specs.declared.faults.Handler.TheVariants.{Local, System}
use Rattle.i9_model.specs.declared.faults.FaultStop.{FaultStop}
use Rattle.i9_model.specs.declared.push.Push.{Push}
use Rattle.i9_model.specs.declared.interrupts.Chosen.{Chosen}
use Rattle.i9_model.specs.declared.interrupts.TheConstants.{INTERRUPTED_PLACE}
use Rattle.i9_isa.specs.Words.{bit}
use Rattle.i9_model.specs.Writes.{wrapped}
use Rattle.i9_model.specs.Memory.{Memory, word_in}
use Rattle.i9_model.specs.State.{State, Frames}
use Rattle.i9_model.specs.Hazards.{or_else, unless, read_hazard, record_write_hazard}
use Rattle.i9_model.specs.Stale.{area_hazard}
use Rattle.i9_model.specs.Operands.{value}
use Rattle.i9_model.specs.Calls.{Caller, caller_in, entry_address, stack_address, is_switch, call_type, entered_here, entered_switched, system_entered, system_hazard_by}
use Rattle.i9_model.specs.Faults.{◌>>=◌, or_stop, table_entry, checked_word, handler_of, planned_handler, planned_frame, entry_of, planned_fault_by}
use Rattle.i9_model.specs.Step.{system_call}
use Rattle.i9_model.specs.Run.{entry_in}
use Rattle.i9_model.specs.Interrupts.{vector_place, interrupt_push, interrupt_record, cleared_hazard, interrupt_hazard, interrupt_entry, planned_interrupt_by}
use Rattle.i9_model.specs.Before.{interrupt_in}
use Rattle.i9_model.proofs.CallLaws.{first_none, second_none, unless_ok, stop_ok, bind_ok}

-- something holds of a procedure that is entered, above a record of so many bytes, in either way
pub record Ways (P : Sys → Type 0) (c : Caller) (extra : ℕ) (kind : Bool → ℕ) : Type 0 where
  pub switched : (x y : ℕ) → P (entered_switched (word_in c.memory x) (word_in c.memory y) c.pc c.fp extra (kind true))
  pub here : (x : ℕ) → P (entered_here (word_in c.memory x) c.pc c.fp c.sp extra (kind false))

system_by : (P : Sys → Type 0) (c : Caller) (table n extra : ℕ) (kind : Bool → ℕ) → Ways P c extra kind → P (system_entered c table n extra kind)
unfolding system_entered
system_by P c table n extra kind ways = by_switch (is_switch entry c.pc)
  where
    entry : ℕ
    entry = word_in c.memory (entry_address table n)

    by_switch : (b : Bool)
        → P (cond b (entered_switched entry (word_in c.memory (stack_address table)) c.pc c.fp extra (kind true)) (entered_here entry c.pc c.fp c.sp extra (kind false)))
    by_switch true = ways.switched (entry_address table n) (stack_address table)
    by_switch false = ways.here (entry_address table n)

-- so it holds of what calls enters
pub call_by : (P : Sys → Type 0) (i : Inst) (s : State) → Ways P (caller_in s) 0 (call_type s.pc) → P (system_call i s)
call_by P i s ways = system_by P (caller_in s) s.tables.system_table (value s i.a) 0 (call_type s.pc) ways

-- ---- the entry of a fault

-- a handler at an address has it from memory
abbrev IsFrom : Memory → Handler → Type 0
IsFrom m (Local target) = (x : ℕ) × (word_in m x ≡ target)
IsFrom m (System n) = Unit {0}

handler_from : (m : Memory) (at first second : ℕ) (h : Handler) → word_in m at ≡ first → handler_of at first second ≡ Ok h → IsFrom m h
handler_from m at first second h word e =
    by_tests (first % 4 == 0) (not (first % 4 == 2)) (not (second == SYSTEM_ENTRY)) (nat_le (first / 4) MOST_SYSTEM_CALL) _ _ _ e
  where
    by_tests : (a b c d : Bool) (p q r : FaultStop)
        → cond a (Ok (Local first)) (cond b (Err p) (cond c (Err q) (cond d (Ok (System (first / 4))) (Err r)))) ≡ Ok h → IsFrom m h
    by_tests true b c d p q r k = let same : Local first ≡ h = cc in subst (IsFrom m) same (at, word)
    by_tests false true c d p q r k = absurd cc
    by_tests false false true d p q r k = absurd cc
    by_tests false false false true p q r k = let same : System (first / 4) ≡ h = cc in subst (IsFrom m) same tt
    by_tests false false false false p q r k = absurd cc

planned_from : (m : Memory) (f : Frames) (at : ℕ) (h : Handler) → planned_handler m f at ≡ Ok h → IsFrom m h
unfolding planned_handler
planned_from m f at h ok =
    let last = λ (first second : ℕ). handler_of at first second in
    let a = bind_ok (checked_word m f at) (λ first. checked_word m f (wrapped (at + 4)) >>= last first) h ok in
    let b = bind_ok (checked_word m f (wrapped (at + 4))) (last a.0) h a.2 in
    let hazard = read_hazard f at 4 in
    let word = (unless_ok hazard (word_in m at) a.0 (stop_ok (unless hazard (word_in m at)) a.0 a.1)).1 in
    handler_from m at a.0 b.0 h word b.2

frame_by : (P : Sys → Type 0) (c : Caller) (system : ℕ) (area : Bool → Option ℕ) (h : Handler) (sys : Sys)
    → Ways P c RECORD_SIZE (λ _. FAULT_RETURN) → IsFrom c.memory h → planned_frame c system area h ≡ Ok sys → P sys
unfolding planned_frame
frame_by P c system area (Local target) sys ways from e =
    let here = λ (t : ℕ). entered_here t c.pc c.fp c.sp RECORD_SIZE FAULT_RETURN in
    subst P (unless_ok (area false) (here target) sys e).1 (subst (λ (t : ℕ). P (here t)) from.1 (ways.here from.0))
frame_by P c system area (System n) sys ways from e =
    let entered = system_entered c system n RECORD_SIZE (λ _. FAULT_RETURN) in
    subst P (unless_ok (system_hazard_by c.memory c.frames system n c.pc area) entered sys e).1
    (system_by P c system n RECORD_SIZE (λ _. FAULT_RETURN) ways)

-- and it holds of what the entry of a fault enters, whose record meets no hazard
pub entry_by : (P : Sys → Type 0) (s : State) (fault : Fault) (e : Entry)
    → Ways P (caller_in s) RECORD_SIZE (λ _. FAULT_RETURN)
    → entry_in s fault ≡ Ok e → (sys : Sys) × P sys × (entry_of fault s.pc s.ac sys ≡ e) × (record_write_hazard s.frames sys.push ≡ None)
unfolding entry_in planned_fault_by
entry_by P s fault e ways ok =
    let m = s.memory in
    let f = s.frames in
    let made = λ (sys : Sys). or_stop (unless (record_write_hazard f sys.push) (entry_of fault s.pc s.ac sys)) in
    let frame = planned_frame (caller_in s) s.tables.system_table (area_hazard s) in
    let at = table_entry s.tables.fault_table fault.kind in
    let a = bind_ok (planned_handler m f at) (λ h. or_stop (frame h) >>= made) e ok in
    let b = bind_ok (or_stop (frame a.0)) made e a.2 in
    let from = planned_from m f at a.0 a.1 in
    let plan = unless (record_write_hazard f b.0.push) (entry_of fault s.pc s.ac b.0) in
    let done = unless_ok (record_write_hazard f b.0.push) (entry_of fault s.pc s.ac b.0) e (stop_ok plan e b.2) in (
      b.0,
      frame_by P (caller_in s) s.tables.system_table (area_hazard s) a.0 b.0 ways from (stop_ok (frame a.0) b.0 b.1),
      done.1,
      done.0,
    )

-- ---- the entry of an interrupt

-- its push, and the words of its record
abbrev pub push_for : State → Push
push_for s = interrupt_push s.tables.interrupt_stack s.pc (s.regs FP) (s.regs SP)

abbrev pub words_for : State → Chosen → List ℕ
words_for s c = interrupt_record c.vector s.pc s.ac

abbrev pub entry_for : State → Chosen → Entry
entry_for s c = interrupt_entry s.memory s.tables.interrupt_table c (push_for s) (words_for s c)

-- where it meets no hazard, its record meets none
pub interrupt_made : (s : State) (c : Chosen) (e : Entry) → interrupt_in s c ≡ Ok e
    → (entry_for s c ≡ e) × (record_write_hazard s.frames (push_for s) ≡ None)
unfolding interrupt_in planned_interrupt_by interrupt_hazard
interrupt_made s c e ok =
    let f = s.frames in
    let push = push_for s in
    let vector = read_hazard f (vector_place s.tables.interrupt_table c.vector) 4 in
    let clears = cleared_hazard s.memory f s.tables.interrupt_table c push (words_for s c) in
    let records = or_else (record_write_hazard f push) clears in
    let area = area_hazard s (not (bit s.pc INTERRUPTED_PLACE)) in
    let saves = or_else area records in
    let found = unless_ok (or_else vector saves) (entry_for s c) e ok in
    let later = second_none area records (second_none vector saves found.0) in
    (found.1, first_none (record_write_hazard f push) clears later)
