-- What a return gives back of what was before its call.
use Rattle.std.specs.Prelude.{◌≡◌, ◌≢◌, ℕ, ◌<◌, ◌≤◌, Bool, true, false, ◌&&◌, if◌then◌else◌, bit_and, IsTrue}
use Rattle.i9_isa.specs.declared.op.Op.{Op}
use Rattle.i9_isa.specs.declared.op.Op.TheVariants.{Call, Callx, Calls, Ret}
use Rattle.i9_isa.specs.declared.inst.Inst.{Inst}
use Rattle.i9_model.specs.declared.layout.TheConstants.{LOCALS, RIP, FP, PC_MASK, AC_MASK, RECORD_SIZE}
use Rattle.i9_model.specs.declared.interrupts.Cause.{Cause}
use Rattle.i9_model.specs.declared.interrupts.Cause.TheVariants.{Nmi, Line, Soft}
use Rattle.i9_model.specs.State.{State}
use Rattle.i9_model.specs.Frames.{rounded_down, in_bytes, record_address}
use Rattle.i9_model.specs.Requests.{priority_place, pending_place}
use Rattle.i9_model.specs.Calls.{in_supervisor_mode, trace_enable, without_supervisor, saved_pc, saved_ac}
use Rattle.i9_model.specs.Step.{following, system_call}
use Rattle.i9_model.specs.Run.{Kind, Instruction, Faulted, Entered, Interrupted, Reached, Record}

-- ---- calls and returns

abbrev pub is_call_name : Op → Bool
is_call_name Call = true
is_call_name Callx = true
is_call_name Calls = true
is_call_name _ = false

-- the entry of a fault, or that of an interrupt
abbrev pub is_entry : Kind → Bool
is_entry (Instruction i) = false
is_entry (Faulted inst fault) = false
is_entry (Entered e) = true
is_entry (Interrupted c e) = true
is_entry (Reached e u) = false

-- a call: one of these instructions, or such an entry
abbrev pub is_call : Kind → Bool
is_call (Instruction i) = is_call_name i.op
is_call (Faulted inst fault) = false
is_call (Entered e) = true
is_call (Interrupted c e) = true
is_call (Reached e u) = false

abbrev pub is_return_name : Op → Bool
is_return_name Ret = true
is_return_name _ = false

abbrev pub is_return : Kind → Bool
is_return (Instruction i) = is_return_name i.op
is_return (Faulted inst fault) = false
is_return (Entered e) = false
is_return (Interrupted c e) = false
is_return (Reached e u) = false

-- the address that a call in a state returns to: behind the instruction, where control is already when its fault is
-- entered; and that of the instruction that would have come next, before which an interrupt is entered
abbrev pub return_address : Kind → State → ℕ
return_address (Instruction i) s = following i s
return_address (Faulted inst fault) s = s.ip
return_address (Entered e) s = s.ip
return_address (Interrupted c e) s = s.ip
return_address (Reached e u) s = s.ip

-- ---- controls

-- a system call that switched stacks is left to user mode, with trace enable as before the call
abbrev pub pc_by_name : Op → Inst → State → State → ℕ
pc_by_name Calls i s u =
    if (system_call i s).switched && in_supervisor_mode u.pc then without_supervisor u.pc (trace_enable s.pc) else u.pc
pc_by_name _ i s u = u.pc

-- those of the record below fp, which supervisor mode alone takes back
abbrev pub pc_of_record : State → ℕ
pc_of_record u = if in_supervisor_mode u.pc then bit_and (saved_pc u.memory (u.regs FP)) PC_MASK else u.pc

-- The process controls after a return in the state u from what was called in the state s: those before the return, but
-- for such a system call, and after a fault or an interrupt those of the record.
abbrev pub pc_back : Kind → State → State → ℕ
pc_back (Instruction i) s u = pc_by_name i.op i s u
pc_back (Faulted inst fault) s u = u.pc
pc_back (Entered e) s u = pc_of_record u
pc_back (Interrupted c e) s u = pc_of_record u
pc_back (Reached e does) s u = u.pc

abbrev pub ac_of_record : State → ℕ
ac_of_record u = bit_and (saved_ac u.memory (u.regs FP)) AC_MASK

-- the arithmetic controls: those before the return, but after a fault or an interrupt those of the record
abbrev pub ac_back : Kind → State → ℕ
ac_back (Instruction i) u = u.ac
ac_back (Faulted inst fault) u = u.ac
ac_back (Entered e) u = ac_of_record u
ac_back (Interrupted c e) u = ac_of_record u
ac_back (Reached e does) u = u.ac

-- ---- what a return gives back

-- The local registers are again what they were before the call, but r2 is the return address; fp is what it was,
-- rounded down to a multiple of 16; g0 to g14 stay as the return found them; and control goes to the return address.
pub record GivesRegisters (call back : Record) : Type 0 where
  pub locals : (r : ℕ) → r < LOCALS → r ≢ RIP → back.after.regs r ≡ call.before.regs r
  pub rip : back.after.regs RIP ≡ return_address call.kind call.before
  pub fp : back.after.regs FP ≡ rounded_down (call.before.regs FP)
  pub globals : (r : ℕ) → LOCALS ≤ r → r ≢ FP → back.after.regs r ≡ back.before.regs r
  pub ip : back.after.ip ≡ return_address call.kind call.before

-- the controls are those that a return from such a call leaves
pub record GivesControls (call back : Record) : Type 0 where
  pub pc : back.after.pc ≡ pc_back call.kind call.before back.before
  pub ac : back.after.ac ≡ ac_back call.kind back.before

-- the record below fp has the controls of a state
pub record HasControls (s u : State) : Type 0 where
  pub pc : saved_pc u.memory (u.regs FP) ≡ s.pc
  pub ac : saved_ac u.memory (u.regs FP) ≡ s.ac

-- the two bytes of software's request for a vector lie beside a record
abbrev pub AreBeside : Cause → ℕ → ℕ → ℕ → Type 0
AreBeside Nmi table v at = Unit {0}
AreBeside (Line k) table v at = Unit {0}
AreBeside Soft table v at =
    (in_bytes at RECORD_SIZE (priority_place table v) ≡ false)
    × (in_bytes at RECORD_SIZE (pending_place table v) ≡ false)

-- An entry leaves its record as it wrote it: that of an interrupt clears what chose it afterwards, where software asked
-- for it in bytes of the interrupt table.
abbrev pub LeavesRecord : Kind → State → Type 0
LeavesRecord (Instruction i) s = Unit {0}
LeavesRecord (Faulted inst fault) s = Unit {0}
LeavesRecord (Entered e) s = Unit {0}
LeavesRecord (Interrupted c e) s = AreBeside c.cause s.tables.interrupt_table c.vector (record_address e.push.frame)
LeavesRecord (Reached e u) s = Unit {0}

-- The controls are again what they were before the entry of a fault or of an interrupt, the process controls where the
-- return is in supervisor mode.
pub record GivesOldControls (call back : Record) : Type 0 where
  pub pc : IsTrue (in_supervisor_mode back.before.pc) → back.after.pc ≡ call.before.pc
  pub ac : back.after.ac ≡ call.before.ac
