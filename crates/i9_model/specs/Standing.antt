-- What stands at the instruction address: a hazard of its fetch or of its access, a word that is refused, an
-- instruction that faults, or one that is done.
use Rattle.std.specs.Prelude.{ℕ, Bool, true, false, ◌&&◌, if◌then◌else◌, Option, Some, None, Result, Ok, Err}
use Rattle.std.specs.Option.{option_map}
use Rattle.i9_isa.specs.declared.op.Op.{Op}
use Rattle.i9_isa.specs.declared.op.Op.TheVariants.{Faultno, Faultg, Faulte, Faultge, Faultl, Faultne, Faultle, Faulto}
use Rattle.i9_isa.specs.declared.inst.Inst.{Inst}
use Rattle.i9_isa.specs.declared.inst.BadWord.{BadWord}
use Rattle.i9_isa.specs.declared.inst.BadWord.TheVariants.{Opcode, Operand}
use Rattle.i9_isa.specs.Words.{decoded}
use Rattle.i9_model.specs.declared.arith.Arith.{Arith}
use Rattle.i9_model.specs.declared.arith.Arith.TheVariants.{Overflow, ZeroDivide}
use Rattle.i9_model.specs.declared.faults.TheConstants.{OPERATION, ARITHMETIC, CONSTRAINT, INVALID_OPCODE}
use Rattle.i9_model.specs.declared.faults.TheConstants.{INVALID_OPERAND, OVERFLOW, ZERO_DIVIDE, RANGE}
use Rattle.i9_model.specs.State.{State}
use Rattle.i9_model.specs.Operands.{value}
use Rattle.i9_model.specs.Results.{Answer}
use Rattle.i9_model.specs.Branches.{is_taken}
use Rattle.i9_model.specs.Step.{first_word, next_word, answer_in}
use Rattle.i9_model.specs.Access.{access_of, data_of, hazard_of, fetch_hazard}
use Rattle.i9_model.specs.Faults.{raised}
use Rattle.i9_model.specs.Stale.{misuses}

-- ---- the fault of an instruction, as type and subtype

-- the faults of a word that is refused
abbrev pub word_fault : BadWord → ℕ × ℕ
word_fault Opcode = (OPERATION, INVALID_OPCODE)
word_fault Operand = (OPERATION, INVALID_OPERAND)

-- the faults of a result
abbrev pub arithmetic_fault : Arith → ℕ × ℕ
arithmetic_fault Overflow = (ARITHMETIC, OVERFLOW)
arithmetic_fault ZeroDivide = (ARITHMETIC, ZERO_DIVIDE)

abbrev pub answer_fault : Option Answer → Option (ℕ × ℕ)
answer_fault None = None
answer_fault (Some r) = option_map arithmetic_fault r.fault

-- a fault instruction whose condition holds raises its fault
abbrev pub is_fault_name : Op → Bool
is_fault_name Faultno = true
is_fault_name Faultg = true
is_fault_name Faulte = true
is_fault_name Faultge = true
is_fault_name Faultl = true
is_fault_name Faultne = true
is_fault_name Faultle = true
is_fault_name Faulto = true
is_fault_name _ = false

abbrev pub range_fault : Inst → State → Option (ℕ × ℕ)
range_fault i s = if is_fault_name i.op
    && is_taken i (value s i.a) (value s i.b) s.ac then Some (CONSTRAINT, RANGE) else None

abbrev pub first_fault : Option (ℕ × ℕ) → Option (ℕ × ℕ) → Option (ℕ × ℕ)
first_fault (Some f) later = Some f
first_fault None later = later

-- what it raises before it does anything
abbrev pub raised_in : Inst → State → Option (ℕ × ℕ)
raised_in i s = raised i (value s i.a) (value s i.b) (data_of (access_of i s)) s.pc s.tables.fault_config

-- what it raises by its result, or by its condition
abbrev pub later_fault : Inst → State → Option (ℕ × ℕ)
later_fault i s = first_fault (answer_fault (answer_in i s)) (range_fault i s)

-- ---- what stands there

pub data Standing : Type 0 where
  Meets : (hazard : ℕ) → Standing
  Refused : (number : ℕ × ℕ) → Standing
  Faults : (inst : Inst) → (number : ℕ × ℕ) → Standing
  Runs : (inst : Inst) → Standing

-- of an instruction that raises no fault
abbrev pub by_access : Inst → Option ℕ → Standing
by_access i (Some a) = Meets a
by_access i None = Runs i

abbrev pub by_later : Inst → State → Option (ℕ × ℕ) → Standing
by_later i s (Some number) = Faults i number
by_later i s None = by_access i (hazard_of i s)

-- what is raised before it does anything comes first
abbrev pub by_raised : Inst → State → Option (ℕ × ℕ) → Standing
by_raised i s (Some number) = Faults i number
by_raised i s None = by_later i s (later_fault i s)

-- by the first word that is there; what marks forbid comes before what is raised
abbrev pub by_word : State → Result Inst BadWord → Standing
by_word s (Err e) = Refused (word_fault e)
by_word s (Ok i) = if misuses i s then Meets s.ip else by_raised i s (raised_in i s)

abbrev pub by_fetch : State → Option ℕ → Standing
by_fetch s (Some a) = Meets a
by_fetch s None = by_word s (decoded (first_word s) (next_word s))

unfoldable pub stands_at : State → Standing
stands_at s = by_fetch s (fetch_hazard s)
