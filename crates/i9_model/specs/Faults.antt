-- Faults: the first that an instruction raises before it does anything, and the entry of a fault through the fault
-- table.
use Rattle.std.specs.Prelude.{ℕ, ◌+◌, ◌*◌, ◌/◌, ◌%◌, ◌^◌, Bool, true, false, not, ◌==◌, nat_le, nat_lt, ◌&&◌, ◌||◌}
use Rattle.std.specs.Prelude.{if◌then◌else◌, bit_and, List, [], ◌∷◌, Option, Some, None, Result, Ok, Err}
use Rattle.i9_isa.specs.declared.op.Op.{Op}
use Rattle.i9_isa.specs.declared.op.Op.TheVariants.{Calls, Modpc, Sdma, Sysctl}
use Rattle.i9_isa.specs.declared.inst.Operand.{Operand}
use Rattle.i9_isa.specs.declared.inst.Operand.TheVariants.{Reg, Lit, Sfr}
use Rattle.i9_isa.specs.declared.inst.Inst.{Inst}
use Rattle.i9_isa.specs.Words.{bit, field}
use Rattle.i9_model.specs.declared.layout.TheConstants.{MOST_SYSTEM_CALL, FAULT_RETURN, RECORD_SIZE}
use Rattle.i9_model.specs.declared.faults.TheConstants.{OPERATION, PROTECTION, TYPE, UNALIGNED, INVALID_OPERAND, LENGTH}
use Rattle.i9_model.specs.declared.faults.TheConstants.{MISMATCH, FAULT_ENTRY_SIZE, SYSTEM_ENTRY, TRACE_MASK}
use Rattle.i9_model.specs.declared.faults.TheConstants.{NO_HANDLER, NO_SYSTEM_ENTRY, NO_PROCEDURE}
use Rattle.i9_model.specs.declared.faults.Fault.{Fault}
use Rattle.i9_model.specs.declared.faults.Entry.{Entry}
use Rattle.i9_model.specs.declared.faults.Handler.{Handler}
use Rattle.i9_model.specs.declared.faults.Handler.TheVariants.{Local, System}
use Rattle.i9_model.specs.declared.faults.FaultStop.{FaultStop}
use Rattle.i9_model.specs.declared.faults.FaultStop.TheVariants.{Hazard, Dead}
use Rattle.i9_model.specs.declared.calls.Sys.{Sys}
use Rattle.i9_model.specs.Writes.{wrapped}
use Rattle.i9_model.specs.Memory.{Memory, word_in}
use Rattle.i9_model.specs.State.{Frames}
use Rattle.i9_model.specs.Hazards.{unless, read_hazard, record_write_hazard}
use Rattle.i9_model.specs.Numbers.{complement}
use Rattle.i9_model.specs.Calls.{in_supervisor_mode, Caller, save_area, system_hazard_by, entered_here}
use Rattle.i9_model.specs.Calls.{system_entered}

-- ---- the faults of an instruction

-- only supervisor mode may do this: system control, DMA setup, and a change of PC, whose mask is src2
abbrev pub is_supervisor_only : Op → ℕ → Bool
is_supervisor_only Sysctl b = true
is_supervisor_only Sdma b = true
is_supervisor_only Modpc b = not (b == 0)
is_supervisor_only _ b = false

-- only supervisor mode may use special function registers
abbrev pub is_special : Operand → Bool
is_special (Reg r) = false
is_special (Lit n) = false
is_special (Sfr k) = true

abbrev pub uses_special : Inst → Bool
uses_special i = is_special i.a || is_special i.b || is_special i.c

abbrev pub mismatches : Inst → ℕ → ℕ → Bool
mismatches i b pc = not (in_supervisor_mode pc) && (is_supervisor_only i.op b || uses_special i)

-- sysctl has the messages 0 to 4, in bits 15 to 8 of src1; the control group of message 4, in bits 7 to 0, is at most 6
abbrev pub is_message : ℕ → Bool
is_message a = nat_lt (field a 8 8) 4 || (field a 8 8 == 4 && nat_lt (field a 0 8) 7)

-- src1 is a message that there is not, or a DMA channel above 3
abbrev pub is_invalid : Op → ℕ → Bool
is_invalid Sysctl a = not (is_message a)
is_invalid Sdma a = not (nat_lt a 4)
is_invalid _ a = false

-- src1 is past the last system procedure
abbrev pub is_past_table : Op → ℕ → Bool
is_past_table Calls a = not (nat_le a MOST_SYSTEM_CALL)
is_past_table _ a = false

-- what the address of an access of so many bytes is to be a multiple of: their number, and 16 for 12 of them
abbrev pub alignment : ℕ → ℕ
alignment n =
    if n == 2 then 2
    else if n == 4 then 4
    else if n == 8 then 8
    else if n == 12 then 16
    else if n == 16 then 16
    else 1

-- an access that is not aligned faults where bit 30 of the fault configuration is clear
abbrev pub is_unaligned : Option (ℕ × ℕ) → ℕ → Bool
is_unaligned None config = false
is_unaligned (Some access) config = not (access.0 % alignment access.1 == 0) && not (bit config 30)

-- The first fault, as type and subtype, of an instruction with these values of src1 and src2, the address and the
-- number of bytes of its data access where it has one, the process controls and the fault configuration.
unfoldable pub raised : Inst → ℕ → ℕ → Option (ℕ × ℕ) → ℕ → ℕ → Option (ℕ × ℕ)
raised i a b access pc config =
    if mismatches i b pc then Some (TYPE, MISMATCH)
    else if is_invalid i.op a then Some (OPERATION, INVALID_OPERAND)
    else if is_past_table i.op a then Some (PROTECTION, LENGTH)
    else if is_unaligned access config then Some (OPERATION, UNALIGNED)
    else None

-- ---- the fault table

-- what comes next, unless the entry has stopped; a hazard stops it
infixl 10 ◌>>=◌
abbrev pub ◌>>=◌ : {A B : Type 0} → Result A FaultStop → (A → Result B FaultStop) → Result B FaultStop
Ok x >>= next = next x
Err stop >>= next = Err stop

abbrev pub or_stop : {A : Type 0} → Result A ℕ → Result A FaultStop
or_stop (Ok x) = Ok x
or_stop (Err a) = Err (Hazard a)

-- where the fault table has the two words of a type
abbrev pub table_entry : ℕ → ℕ → ℕ
table_entry table kind = wrapped (table + FAULT_ENTRY_SIZE * kind)

-- What the two words of an entry name, by the low two bits of the first: 00 is a handler at this address, 10 the system
-- procedure whose number is in the bits above, where the second word says so. Else the entry is dead.
abbrev pub handler_of : ℕ → ℕ → ℕ → Result Handler FaultStop
handler_of at first second =
    if first % 4 == 0 then Ok (Local first)
    else if not (first % 4 == 2) then Err (Dead NO_HANDLER at)
    else if not (second == SYSTEM_ENTRY) then Err (Dead NO_SYSTEM_ENTRY (wrapped (at + 4)))
    else if nat_le (first / 4) MOST_SYSTEM_CALL then Ok (System (first / 4))
    else Err (Dead NO_PROCEDURE at)

-- a word of a table, which is read
abbrev pub checked_word : Memory → Frames → ℕ → Result ℕ FaultStop
checked_word m f a = or_stop (unless (read_hazard f a 4) (word_in m a))

-- both words are read before the first decides
unfoldable pub planned_handler : Memory → Frames → ℕ → Result Handler FaultStop
planned_handler m f at = do
  first ← checked_word m f at
  second ← checked_word m f (wrapped (at + 4))
  handler_of at first second

-- ---- the entry of a fault

-- The handler is entered above a record and with the return type of a fault: on the stack in use, or as by a system
-- call. What is checked of the push goes by whether stacks are switched.
unfoldable pub planned_frame : Caller → ℕ → (Bool → Option ℕ) → Handler → Result Sys ℕ
planned_frame c system area (Local target) =
    unless (area false) (entered_here target c.pc c.fp c.sp RECORD_SIZE FAULT_RETURN)
planned_frame c system area (System n) =
    unless (system_hazard_by c.memory c.frames system n c.pc area)
    (system_entered c system n RECORD_SIZE (λ _. FAULT_RETURN))

-- trace enable and trace fault pending are cleared
abbrev pub without_trace : ℕ → ℕ
without_trace pc = bit_and pc (complement TRACE_MASK)

-- what a record says: PC and AC before the entry, type and subtype, and the address of the instruction
abbrev pub fault_record : Fault → ℕ → ℕ → List ℕ
fault_record fault pc ac = pc ∷ ac ∷ (fault.kind * 2 ^ 16 + fault.subtype) ∷ fault.address ∷ []

abbrev pub entry_of : Fault → ℕ → ℕ → Sys → Entry
entry_of fault pc ac s = record
    { push = s.push; target = s.target; pc = without_trace s.pc; words = fault_record fault pc ac }

-- The entry of a fault by a fault table and a system procedure table, with these arithmetic controls, or what stops it
-- first: the entry's words are read, then what a system procedure needs, then the frame is saved, and then the record
-- is written.
unfoldable pub planned_fault_by : Caller → ℕ → ℕ → Fault → ℕ → (Bool → Option ℕ) → Result Entry FaultStop
planned_fault_by c table system fault ac area = do
  handler ← planned_handler c.memory c.frames (table_entry table fault.kind)
  sys ← or_stop (planned_frame c system area handler)
  or_stop (unless (record_write_hazard c.frames sys.push) (entry_of fault c.pc ac sys))

-- of the push, the save area is checked alone
abbrev pub planned_fault : Caller → ℕ → ℕ → Fault → ℕ → Result Entry FaultStop
planned_fault c table system fault ac = planned_fault_by c table system fault ac (save_area c.frames c.fp)
