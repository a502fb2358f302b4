-- What can be known of an instruction.
use Rattle.std.specs.Prelude.{◌≡◌, ◌≤◌, Bool, true, false}
use Rattle.std.specs.Option.{is_some}
use Rattle.i9_isa.specs.declared.op.Op.{Op}
use Rattle.i9_isa.specs.declared.op.Op.TheVariants.{Call, Callx, Calls, Ret}
use Rattle.i9_isa.specs.declared.inst.Inst.{Inst}
use Rattle.i9_model.specs.declared.need.Facts.{Facts}
use Rattle.i9_model.specs.Needs.{has_access}

-- a call or a return
abbrev pub moves_a_frame : Op → Bool
moves_a_frame Call = true
moves_a_frame Callx = true
moves_a_frame Calls = true
moves_a_frame Ret = true
moves_a_frame _ = false

-- Facts that an instruction has: at most 15 frames are held, a call spills one of them and a return refills one, and a
-- region waits at most 31 turns at a read and 31 at a write.
pub record AreFacts (i : Inst) (f : Facts) : Type 0 where
  pub frames : f.frames ≤ 15
  pub one : moves_a_frame i.op ≡ true → f.frames ≤ 1
  pub waits : f.waits ≤ 62
  pub access : is_some f.access ≡ has_access i.op
