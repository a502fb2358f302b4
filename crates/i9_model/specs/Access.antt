-- The accesses of an instruction in a state, and the first hazard that they meet.
use Rattle.std.specs.Prelude.{ℕ, ◌+◌, ◌==◌, false, if◌then◌else◌, Option, Some, None, Result, Ok, Err}
use Rattle.i9_isa.specs.declared.op.Op.{Op}
use Rattle.i9_isa.specs.declared.op.Op.TheVariants.{Atadd, Atmod, Call, Callx, Calls, Ret, Sysctl}
use Rattle.i9_isa.specs.declared.size.Transfer.{Transfer}
use Rattle.i9_isa.specs.declared.size.Direction.{Direction}
use Rattle.i9_isa.specs.declared.size.Direction.TheVariants.{Load, Store}
use Rattle.i9_isa.specs.declared.inst.Inst.{Inst}
use Rattle.i9_isa.specs.declared.inst.BadWord.{BadWord}
use Rattle.i9_isa.specs.Words.{words_of, decoded}
use Rattle.i9_isa.specs.Transfers.{transfer_of, byte_count}
use Rattle.i9_model.specs.declared.layout.TheConstants.{PFP, FP}
use Rattle.i9_model.specs.Writes.{wrapped}
use Rattle.i9_model.specs.State.{State}
use Rattle.i9_model.specs.Frames.{flushed}
use Rattle.i9_model.specs.Hazards.{or_else, read_hazard, write_hazard}
use Rattle.i9_model.specs.Stale.{area_hazard}
use Rattle.i9_model.specs.Requests.{request_hazard}
use Rattle.i9_model.specs.Calls.{system_hazard_by, ret_hazard}
use Rattle.i9_model.specs.Tables.{tables_hazard, group_hazard}
use Rattle.i9_model.specs.Operands.{value, address}
use Rattle.i9_model.specs.Step.{Message, AsksNothing, AsksCheck, AsksInterrupt, AsksRestart, AsksGroup, first_word}
use Rattle.i9_model.specs.Step.{next_word, atomic_address, argument_of, asked_message}

-- a read or a write of so many bytes, both after one another, the save of a frame, a system procedure, a return, a
-- request of a vector, or as after a flush the reads of a PRCB with its control table, or of a control group
pub data Access : Type 0 where
  NoAccess : Access
  Reads : (address : ℕ) → (count : ℕ) → Access
  Writes : (address : ℕ) → (count : ℕ) → Access
  Changes : (address : ℕ) → (count : ℕ) → Access
  SavesFrame : Access
  CallsSystem : (number : ℕ) → Access
  ReturnsBy : (pfp : ℕ) → Access
  Requests : (vector : ℕ) → Access
  ReadsTables : (prcb : ℕ) → Access
  ReadsGroup : (group : ℕ) → Access

abbrev pub message_access : Message → Inst → State → Access
message_access AsksNothing i s = NoAccess
message_access AsksCheck i s = NoAccess
message_access AsksInterrupt i s = Requests (argument_of i s)
message_access AsksRestart i s = ReadsTables (value s i.c)
message_access AsksGroup i s = ReadsGroup (argument_of i s)

abbrev pub access_by_name : Op → Inst → State → Access
access_by_name Atadd i s = Changes (atomic_address i s) 4
access_by_name Atmod i s = Changes (atomic_address i s) 4
access_by_name Call i s = SavesFrame
access_by_name Callx i s = SavesFrame
access_by_name Calls i s = CallsSystem (value s i.a)
access_by_name Ret i s = ReturnsBy (s.regs PFP)
access_by_name Sysctl i s = message_access (asked_message i s) i s
access_by_name _ i s = NoAccess

-- a load reads, and a store writes
abbrev pub moved_access : Direction → ℕ → ℕ → Access
moved_access Load a n = Reads a n
moved_access Store a n = Writes a n

abbrev pub access_by : Option Transfer → Inst → State → Access
access_by (Some t) i s = moved_access t.direction (address s i.ea) (byte_count t.size)
access_by None i s = access_by_name i.op i s

abbrev pub access_of : Inst → State → Access
access_of i s = access_by (transfer_of i.op) i s

-- the address and the number of bytes of a data access
abbrev pub data_of : Access → Option (ℕ × ℕ)
data_of (Reads a n) = Some (a, n)
data_of (Writes a n) = Some (a, n)
data_of (Changes a n) = Some (a, n)
data_of _ = None

abbrev pub hazard_in : State → Access → Option ℕ
hazard_in s NoAccess = None
hazard_in s (Reads a n) = None
hazard_in s (Writes a n) = write_hazard s.frames a n
hazard_in s (Changes a n) = write_hazard s.frames a n
hazard_in s SavesFrame = area_hazard s false
hazard_in s (CallsSystem n) = system_hazard_by s.memory s.frames s.tables.system_table n s.pc (area_hazard s)
hazard_in s (ReturnsBy pfp) = ret_hazard s.frames pfp (s.regs FP)
hazard_in s (Requests v) = request_hazard s.frames s.tables.interrupt_table v
hazard_in s (ReadsTables prcb) = tables_hazard s.memory (flushed s.frames) prcb
hazard_in s (ReadsGroup group) = group_hazard (flushed s.frames) s.tables.control_table group

-- the hazard of an instruction's access
unfoldable pub hazard_of : Inst → State → Option ℕ
hazard_of i s = hazard_in s (access_of i s)

-- the second word is read where the first one has it
abbrev pub second_hazard : State → Result Inst BadWord → Option ℕ
second_hazard s (Err e) = None
second_hazard s (Ok i) = if words_of i == 2 then read_hazard s.frames (wrapped (s.ip + 4)) 4 else None

-- the hazard of the fetch of an instruction's own words
unfoldable pub fetch_hazard : State → Option ℕ
fetch_hazard s = or_else (read_hazard s.frames s.ip 4) (second_hazard s (decoded (first_word s) (next_word s)))
