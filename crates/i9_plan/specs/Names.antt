-- What is known of every valid instruction, and which names do what.
use Rattle.std.specs.Prelude.{ℕ, ◌+◌, ◌≤◌, Bool, true, false}
use Rattle.i9_isa.specs.declared.op.Op.{Op}
use Rattle.i9_isa.specs.declared.op.Op.TheVariants.{Atadd, Atmod, Bal, Movl, Movt, Movq, Ediv, Modify, Extract}
use Rattle.i9_isa.specs.declared.inst.Operand.{Operand}
use Rattle.i9_isa.specs.declared.inst.Operand.TheVariants.{Reg, Lit, Sfr}
use Rattle.i9_model.specs.Branches.{asks, question_of}

-- so many registers from the one that an operand names are there
abbrev pub HasGroup : Operand → ℕ → Type 0
HasGroup (Reg r) n = r + n ≤ 32
HasGroup (Lit l) n = Unit {0}
HasGroup (Sfr k) n = Unit {0}

-- names that branch, or fault by their condition, and do nothing else
abbrev pub is_branch : Op → Bool
is_branch Bal = false
is_branch op = asks (question_of op)

abbrev pub is_atomic : Op → Bool
is_atomic Atadd = true
is_atomic Atmod = true
is_atomic _ = false

-- names whose result is made of more than one word of src1 and one of src2: of further words, or of src/dst
abbrev pub reads_more : Op → Bool
reads_more Movl = true
reads_more Movt = true
reads_more Movq = true
reads_more Ediv = true
reads_more Modify = true
reads_more Extract = true
reads_more _ = false
