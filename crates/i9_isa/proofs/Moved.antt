-- What holds of each transfer.
use Rattle.std.proofs.Common.{◌≡◌, ◌≤◌, Option, Some, None, subst, arith}
use Rattle.i9_isa.specs.declared.op.Op.{Op}
use Rattle.i9_isa.specs.declared.op.Op.TheVariants.{Ldob}
use Rattle.i9_isa.specs.declared.size.Direction.{Direction}
use Rattle.i9_isa.specs.declared.size.Transfer.{Transfer}
use Rattle.i9_isa.specs.Operands.{words_read, words_written}
use Rattle.i9_isa.specs.Table.{row_of}
use Rattle.i9_isa.specs.Transfers.{byte_count, register_count, transfer_of}

-- a transfer has from 1 to 16 bytes, and the registers that its row writes or reads
record IsMove (op : Op) (t : Transfer) : Type 0 where
  something : 1 ≤ byte_count t.size
  few : byte_count t.size ≤ 16
  loaded : t.direction ≡ Direction.Load → words_written (row_of op).c ≡ register_count t.size
  stored : t.direction ≡ Direction.Store → words_read (row_of op).c ≡ register_count t.size

abbrev AreMoved : Op → Option Transfer → Type 0
AreMoved op None = Unit {0}
AreMoved op (Some t) = IsMove op t

moved : (op : Op) → AreMoved op (transfer_of op)
moved Ldob = grind arith
moved _ = grind arith

move_of : (op : Op) (t : Transfer) → transfer_of op ≡ Some t → IsMove op t
move_of op t e = subst (AreMoved op) e (moved op)

pub moves_something : (op : Op) (t : Transfer) → transfer_of op ≡ Some t → 1 ≤ byte_count t.size
moves_something op t e = (move_of op t e).something

pub moves_few : (op : Op) (t : Transfer) → transfer_of op ≡ Some t → byte_count t.size ≤ 16
moves_few op t e = (move_of op t e).few

pub loads_registers : (op : Op) (t : Transfer) → transfer_of op ≡ Some t → t.direction ≡ Direction.Load → words_written (row_of op).c ≡ register_count t.size
loads_registers op t e = (move_of op t e).loaded

pub stores_registers : (op : Op) (t : Transfer) → transfer_of op ≡ Some t → t.direction ≡ Direction.Store → words_read (row_of op).c ≡ register_count t.size
stores_registers op t e = (move_of op t e).stored

pub ruleset transfer_rules = (moves_something, moves_few, loads_registers, stores_registers)
