-- What a decode cache has of the instruction that was read last.
use Rattle.std.specs.Prelude.{◌≡◌, Option, Ok, false, pos, refl, slice_index_or}
use Rattle.i9_isa.specs.declared.op.Op.{Op}
use Rattle.i9_isa.specs.declared.inst.Inst.{Inst}
use Rattle.i9_isa.specs.declared.inst.Operand.{Operand}
use Rattle.i9_isa.specs.declared.inst.TheConstants.{NO_ADDRESS}
use Rattle.i9_isa.specs.Transfers.{transfer_of}
use Rattle.i9_isa.specs.Words.{decoded}
use Rattle.i9_model.specs.Results.{has_result}
use Rattle.i9_need.specs.declared.fixed.FixedNeed.{FixedNeed}
use Rattle.i9_need.specs.Fixed.{fixed_need}
use Rattle.i9_model.specs.State.{State}
use Rattle.i9_plan.specs.declared.fetched.Words.{Words}
use Rattle.i9_plan.specs.declared.kept.Kept.{Kept}
use Rattle.i9_plan.specs.declared.decode_cache.DecodeCache.{DecodeCache}
use Rattle.i9_plan.specs.declared.transfers.Moving.{Moving}
use Rattle.i9_plan.specs.Moved.{Moves}

-- a branch to itself, which each place has at first
abbrev pub branch : Inst
branch = record { op = Op.B; a = Operand.Reg 0; b = Operand.Reg 0; c = Operand.Reg 0; ea = NO_ADDRESS; disp = pos 0; hint = false }

pub branch_read : decoded 134217728 0 ≡ Ok branch
unfolding decoded
branch_read = refl

-- what is kept of it
abbrev pub first_kept : Kept
first_kept = record {
  words = record { first = 134217728; second = 0 };
  inst = branch;
  need = fixed_need branch;
  transfer = transfer_of Op.B;
  gives = has_result Op.B;
  read = branch_read;
  needs = refl;
  moves = refl;
  results = refl;
  short = refl;
}

-- all that is kept of it
abbrev pub last_of : DecodeCache → Kept
last_of m = slice_index_or m.places.known.items m.places.last first_kept

-- the instruction
abbrev pub inst_in : DecodeCache → Inst
inst_in m = (last_of m).inst

-- its words, the second one as 0 where there is none
abbrev pub words_in : DecodeCache → Words
words_in m = (last_of m).words

-- what it needs by its name and its operands alone
abbrev pub need_in : DecodeCache → FixedNeed
need_in m = (last_of m).need

-- the load or the store that it is, as it was worked out last
abbrev pub moving_in : DecodeCache → Option Moving
moving_in m = m.moving

-- it was worked out in this state
abbrev pub Locates : State → DecodeCache → Type 0
Locates s m = Moves s (inst_in m) (moving_in m)
