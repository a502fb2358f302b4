-- The load or the store that an instruction is.
use Rattle.std.specs.Prelude.{◌≡◌, ◌≤◌, Option, Some, None}
use Rattle.i9_isa.specs.declared.inst.Inst.{Inst}
use Rattle.i9_isa.specs.declared.size.Direction.{Direction}
use Rattle.i9_isa.specs.Operands.{words_written}
use Rattle.i9_isa.specs.Table.{row_of}
use Rattle.i9_isa.specs.Transfers.{transfer_of, byte_count, register_count}
use Rattle.i9_model.specs.State.{State}
use Rattle.i9_model.specs.Operands.{address}
use Rattle.i9_plan.specs.declared.transfers.Moving.{Moving}

-- it is the transfer of an instruction, where its effective address is; its registers are there
pub record IsMove (s : State) (i : Inst) (m : Moving) : Type 0 where
  pub same : transfer_of i.op ≡ Some m.transfer
  pub place : m.address ≡ address s i.ea
  pub few : byte_count m.transfer.size ≤ 16
  pub loaded : m.transfer.direction ≡ Direction.Load → words_written (row_of i.op).c ≡ register_count m.transfer.size

-- the transfer that an instruction is, where it is one
abbrev pub Moves : State → Inst → Option Moving → Type 0
Moves s i None = transfer_of i.op ≡ None
Moves s i (Some m) = IsMove s i m
