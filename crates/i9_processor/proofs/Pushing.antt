-- What a push by marked pointers meets before its save area, and that one by others meets nothing else.
use Rattle.std.proofs.Common.{◌≡◌, ℕ, Bool, false, cond, Option, Some, None, Result, Ok, Err, sym, ap, arith}
use Rattle.std.specs.Prelude.{◌||◌, not, nat_le, unwrap_or}
use Rattle.i9_isa.specs.Words.{bit}
use Rattle.i9_model.specs.declared.layout.TheConstants.{FP, SP, MOST_SYSTEM_CALL, LOCAL_RETURN}
use Rattle.i9_model.specs.declared.interrupts.TheConstants.{INTERRUPTED_PLACE}
use Rattle.i9_model.specs.declared.interrupts.Chosen.{Chosen}
use Rattle.i9_model.specs.declared.calls.Sys.{Sys}
use Rattle.i9_model.specs.declared.calls.CallsStop.{CallsStop}
use Rattle.i9_model.specs.declared.calls.CallsStop.TheVariants as calls
use Rattle.i9_model.specs.declared.faults.Entry.{Entry}
use Rattle.i9_model.specs.declared.faults.Fault.{Fault}
use Rattle.i9_model.specs.declared.faults.FaultStop.{FaultStop}
use Rattle.i9_model.specs.declared.faults.FaultStop.TheVariants as faults
use Rattle.i9_model.specs.State.{State}
use Rattle.i9_model.specs.Frames.{rounded_down, pushed}
use Rattle.i9_model.specs.Hazards.{or_else, unless, read_hazard, save_hazard}
use Rattle.i9_model.specs.Stale.{push_mark, area_hazard}
use Rattle.i9_model.specs.Calls.{caller_in, save_area, system_hazard, system_entered, call_type, calls_answer, planned_call, planned_calls}
use Rattle.i9_model.specs.Faults.{planned_fault_by}
use Rattle.i9_model.specs.Interrupts.{vector_place, interrupt_push, interrupt_record, interrupt_hazard, interrupt_entry, planned_interrupt, planned_interrupt_by}
use Rattle.i9_model.specs.Before.{interrupt_in}
use Rattle.i9_model.specs.Run.{entry_in}
use Rattle.i9_calls.specs.Switches.{system_switch}
use Rattle.i9_faults.specs.Switches.{fault_switch}
use Rattle.i9_faults.proofs.Switching.{fault-stops, fault-alike, fault-refused}
use Rattle.i9_processor.specs.Entries.{call_in, calls_in}

-- ---- what is checked of a push

-- its save area alone, where no pointer that it takes is marked
area_plain : (s : State) (b : Bool) → push_mark s b ≡ None → area_hazard s b ≡ save_area s.frames (s.regs FP) b
area_plain s b none = ap (λ (o : Option ℕ). or_else o (save_hazard s.frames (rounded_down (s.regs FP)))) none

-- and else the instruction address
area_marked : (s : State) (b : Bool) (a : ℕ) → push_mark s b ≡ Some a → area_hazard s b ≡ Some a
area_marked s b a some = ap (λ (o : Option ℕ). or_else o (save_hazard s.frames (rounded_down (s.regs FP)))) some

-- ---- a call to an address

pub call_plain : (s : State) → push_mark s false ≡ None → planned_call s.frames (s.regs FP) (s.regs SP) ≡ call_in s
call_plain s none = sym (ap (λ (o : Option ℕ). unless o (pushed (s.regs FP) (s.regs SP) 0 LOCAL_RETURN)) (area_plain s false none))

pub call_marked : (s : State) (a : ℕ) → push_mark s false ≡ Some a → Err a ≡ call_in s
call_marked s a some = sym (ap (λ (o : Option ℕ). unless o (pushed (s.regs FP) (s.regs SP) 0 LOCAL_RETURN)) (area_marked s false a some))

pub ruleset call_rules = (call_plain, call_marked)

-- ---- a system call

-- by what is checked of its push
abbrev calls_by : State → ℕ → Option ℕ → Result Sys CallsStop
calls_by s n hazard = cond (nat_le n MOST_SYSTEM_CALL) (calls_answer (unless hazard (system_entered (caller_in s) s.tables.system_table n 0 (call_type s.pc)))) (Err calls.Length)

pub calls_plain : (s : State) (n : ℕ) → (s.marks FP || s.marks SP) ≡ false → planned_calls (caller_in s) s.tables.system_table n ≡ calls_in s n
unfolding system_hazard
calls_plain s n none = grind arith

pub calls_goes_on : (s : State) (n : ℕ) (b : Bool) → system_switch s.memory s.frames s.tables.system_table n s.pc ≡ Ok b → push_mark s b ≡ None
    → planned_calls (caller_in s) s.tables.system_table n ≡ calls_in s n
unfolding system_hazard
calls_goes_on s n b e none = grind arith

-- ---- the entry of a fault

-- what it makes where a push is checked so
abbrev fault_by : State → Fault → (Bool → Option ℕ) → Result Entry FaultStop
fault_by s fault area = planned_fault_by (caller_in s) s.tables.fault_table s.tables.system_table fault s.ac area

-- whether it switches stacks
abbrev fault_switches : State → Fault → Result Bool FaultStop
fault_switches s fault = fault_switch s.memory s.frames s.tables.fault_table s.tables.system_table fault s.pc

pub fault_stop : (s : State) (fault : Fault) (stop : FaultStop) → fault_switches s fault ≡ Err stop → Err stop ≡ entry_in s fault
unfolding entry_in
fault_stop s fault stop e = sym (fault-stops (caller_in s) s.tables.fault_table s.tables.system_table fault s.ac (area_hazard s) stop e)

pub fault_marked : (s : State) (fault : Fault) (b : Bool) (a : ℕ) → fault_switches s fault ≡ Ok b → push_mark s b ≡ Some a → Err (faults.Hazard a) ≡ entry_in s fault
unfolding entry_in
fault_marked s fault b a e some = grind (arith, fault-refused)

pub fault_goes_on : (s : State) (fault : Fault) (b : Bool) → fault_switches s fault ≡ Ok b → push_mark s b ≡ None → fault_by s fault (save_area s.frames (s.regs FP)) ≡ entry_in s fault
unfolding entry_in
fault_goes_on s fault b e none =
    sym (fault-alike (caller_in s) s.tables.fault_table s.tables.system_table fault s.ac (area_hazard s) (save_area s.frames (s.regs FP)) b e (area_plain s b none))

-- ---- the entry of an interrupt

-- the stack in use is left where no interrupt is handled
abbrev leaves_stack : State → Bool
leaves_stack s = not (bit s.pc INTERRUPTED_PLACE)

-- what it makes where that is checked of its push
abbrev interrupt_by : State → Chosen → Option ℕ → Result Entry ℕ
interrupt_by s c area =
    let push = interrupt_push s.tables.interrupt_stack s.pc (s.regs FP) (s.regs SP) in
    let words = interrupt_record c.vector s.pc s.ac in
    unless (interrupt_hazard s.memory s.frames s.tables.interrupt_table c push words area) (interrupt_entry s.memory s.tables.interrupt_table c push words)

pub interrupt_plain : (s : State) (c : Chosen) → push_mark s (leaves_stack s) ≡ None
    → planned_interrupt (caller_in s) s.tables.interrupt_table s.tables.interrupt_stack c s.ac ≡ interrupt_in s c
unfolding interrupt_in planned_interrupt_by
interrupt_plain s c none = sym (ap (interrupt_by s c) (area_plain s (leaves_stack s) none))

-- the vector's word is read before
pub interrupt_marked : (s : State) (c : Chosen) (a : ℕ) → push_mark s (leaves_stack s) ≡ Some a
    → Err (unwrap_or (read_hazard s.frames (vector_place s.tables.interrupt_table c.vector) 4) a) ≡ interrupt_in s c
unfolding interrupt_hazard interrupt_in planned_interrupt_by
interrupt_marked s c a some = grind arith
