-- Where an instruction issues, and how long it takes.
use Rattle.std.specs.Prelude.{ℕ}
use Rattle.i9_isa.specs.declared.op.Op.{Op}
use Rattle.i9_isa.specs.declared.op.Op.TheVariants.{Mulo, Muli, Emul, Divo, Divi, Remo, Remi, Modi, Ediv, Bx, Balx}
use Rattle.i9_isa.specs.declared.op.Op.TheVariants.{Call, Callx, Calls, Ret, Sysctl, Sdma, Atadd, Atmod}
use Rattle.i9_isa.specs.declared.inst.Inst.{Inst}
use Rattle.i9_isa.specs.declared.inst.Side.{Side}
use Rattle.i9_isa.specs.declared.format.Format.{Format}
use Rattle.i9_isa.specs.Table.{row_of}

-- the side of a format; bx, balx and callx are branches and calls in the memory format
abbrev pub side_by : Format → Op → Side
side_by Format.Reg op = Side.Reg
side_by Format.Cobr op = Side.Ctl
side_by Format.Ctrl op = Side.Ctl
side_by Format.Mem Bx = Side.Ctl
side_by Format.Mem Balx = Side.Ctl
side_by Format.Mem Callx = Side.Ctl
side_by Format.Mem op = Side.Mem

-- the side on which an instruction issues
abbrev pub issue_side : Inst → Side
issue_side i = side_by (row_of i.op).format i.op

-- The turns from issue to result, by the name alone: 5 for a multiplication, 37 for a division, 4 for a call or a
-- return, 8 for sysctl and sdma, 2 for an atomic, else 1. Frames that are moved and waits of memory add to them.
abbrev pub latency_of : Op → ℕ
latency_of Mulo = 5
latency_of Muli = 5
latency_of Emul = 5
latency_of Divo = 37
latency_of Divi = 37
latency_of Remo = 37
latency_of Remi = 37
latency_of Modi = 37
latency_of Ediv = 37
latency_of Call = 4
latency_of Callx = 4
latency_of Calls = 4
latency_of Ret = 4
latency_of Sysctl = 8
latency_of Sdma = 8
latency_of Atadd = 2
latency_of Atmod = 2
latency_of _ = 1
