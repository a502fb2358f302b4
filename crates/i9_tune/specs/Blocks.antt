-- The instructions that a block may have, which of them depend on each other, and what they do from a state.
use Rattle.std.specs.Prelude.{◌≡◌, ℕ, ◌&&◌, ◌||◌, not, Bool, true, false}
use Rattle.i9_isa.specs.declared.op.Op.{Op}
use Rattle.i9_isa.specs.declared.op.Op.TheVariants.{Lda}
use Rattle.i9_isa.specs.declared.format.Format.{Format}
use Rattle.i9_isa.specs.declared.inst.Mode.{Mode}
use Rattle.i9_isa.specs.declared.inst.Mode.TheVariants.{Ip}
use Rattle.i9_isa.specs.declared.inst.Inst.{Inst}
use Rattle.i9_isa.specs.Resources.{is_read, is_written}
use Rattle.i9_isa.specs.Table.{row_of}
use Rattle.i9_model.specs.Faults.{uses_special}
use Rattle.i9_model.specs.Results.{has_result}
use Rattle.i9_model.specs.Needs.{is_request_name}

-- ---- what a block may have

abbrev pub is_register_format : Format → Bool
is_register_format Format.Reg = true
is_register_format _ = false

-- a name of the register format that has a result
abbrev pub is_result_name : Op → Bool
is_result_name op = is_register_format (row_of op).format && has_result op

abbrev pub is_lda : Op → Bool
is_lda Lda = true
is_lda _ = false

abbrev pub is_relative : Mode → Bool
is_relative Ip = true
is_relative _ = false

abbrev pub is_allowed_name : Op → Bool
is_allowed_name op = is_result_name op || is_lda op || is_request_name op

-- a result, lda, a load or a store, without special function registers, and not relative to its own address
abbrev pub is_allowed : Inst → Bool
is_allowed i = is_allowed_name i.op && not (uses_special i) && not (is_relative i.ea.mode)

-- ---- which depend on each other

-- the first writes nothing that the second reads or writes
abbrev pub Spares : Inst → Inst → Type 0
Spares i j = (k : ℕ) → is_written i k ≡ true → (is_read j k ≡ false) × (is_written j k ≡ false)

-- neither writes what the other reads or writes, and they are not both loads or stores
pub record AreApart (i j : Inst) : Type 0 where
  pub first : Spares i j
  pub second : Spares j i
  pub requests : (is_request_name i.op && is_request_name j.op) ≡ false
