-- What a record needs: its side, the resources that it reads and writes, whether it is a request, slow or a barrier,
-- and how long it takes.
use Rattle.std.specs.Prelude.{ℕ, zero, suc, ◌+◌, ◌*◌, ◌^◌, ◌==◌, ◌&&◌, ◌||◌, not, Bool, true, false, if◌then◌else◌}
use Rattle.std.specs.Prelude.{Option, Some, None, is_some}
use Rattle.i9_isa.specs.declared.op.Op.{Op}
use Rattle.i9_isa.specs.declared.op.Op.TheVariants.{Atadd, Atmod, Call, Callx, Calls, Ret, Flushreg, Syncf, Modac}
use Rattle.i9_isa.specs.declared.op.Op.TheVariants.{Modtc, Modpc, Sysctl, Sdma, Mulo, Muli, Emul, Divo, Divi, Remo}
use Rattle.i9_isa.specs.declared.op.Op.TheVariants.{Remi, Modi, Ediv}
use Rattle.i9_isa.specs.declared.inst.Operand.{Operand}
use Rattle.i9_isa.specs.declared.inst.Operand.TheVariants.{Reg, Lit, Sfr}
use Rattle.i9_isa.specs.declared.inst.Inst.{Inst}
use Rattle.i9_isa.specs.declared.inst.Side.TheVariants.{Ctl}
use Rattle.i9_isa.specs.declared.size.Direction.{Direction}
use Rattle.i9_isa.specs.declared.size.Transfer.{Transfer}
use Rattle.i9_isa.specs.Operands.{words_written}
use Rattle.i9_isa.specs.Table.{row_of}
use Rattle.i9_isa.specs.Words.{words_of}
use Rattle.i9_isa.specs.Resources.{is_read, is_written, is_in_frame}
use Rattle.i9_isa.specs.Costs.{issue_side, latency_of}
use Rattle.i9_isa.specs.Transfers.{transfer_of}
use Rattle.i9_model.specs.declared.need.Facts.{Facts}
use Rattle.i9_model.specs.declared.need.Need.{Need}

-- ---- by name

-- a load or a store; lda is none
abbrev pub is_request_name : Op → Bool
is_request_name op = is_some (transfer_of op)

-- to memory
abbrev pub is_outward : Direction → Bool
is_outward Direction.Load = false
is_outward Direction.Store = true

abbrev pub is_stored : Option Transfer → Bool
is_stored None = false
is_stored (Some t) = is_outward t.direction

-- a store
abbrev pub is_store_name : Op → Bool
is_store_name op = is_stored (transfer_of op)

-- an atomic, a load or a store: these access memory, and wait for it
abbrev pub has_access : Op → Bool
has_access Atadd = true
has_access Atmod = true
has_access op = is_request_name op

-- a call spills a frame, a return refills one, and a flush writes all that are held
abbrev pub moves_frames : Op → Bool
moves_frames Call = true
moves_frames Callx = true
moves_frames Calls = true
moves_frames Ret = true
moves_frames Flushreg = true
moves_frames Sysctl = true
moves_frames _ = false

-- it multiplies or divides
abbrev pub is_slow_name : Op → Bool
is_slow_name Mulo = true
is_slow_name Muli = true
is_slow_name Emul = true
is_slow_name Divo = true
is_slow_name Divi = true
is_slow_name Remo = true
is_slow_name Remi = true
is_slow_name Modi = true
is_slow_name Ediv = true
is_slow_name _ = false

-- whatever its operands are
abbrev pub is_barrier_name : Op → Bool
is_barrier_name Call = true
is_barrier_name Callx = true
is_barrier_name Calls = true
is_barrier_name Ret = true
is_barrier_name Flushreg = true
is_barrier_name Syncf = true
is_barrier_name Modac = true
is_barrier_name Modpc = true
is_barrier_name Modtc = true
is_barrier_name Atadd = true
is_barrier_name Atmod = true
is_barrier_name Sysctl = true
is_barrier_name Sdma = true
is_barrier_name _ = false

-- the turns of an instruction that does not fault but by its result: those of its name, its waits, and 16 for each
-- frame
abbrev pub cost_by : Op → ℕ → ℕ → ℕ
cost_by op waits frames = latency_of op + (if has_access op then waits else 0) + 16 *
    (if moves_frames op then frames else 0)

-- the operand is a special function register, and words are written to it
abbrev pub is_written_sfr : Operand → ℕ → Bool
is_written_sfr (Sfr k) words = not (words == 0)
is_written_sfr (Reg r) words = false
is_written_sfr (Lit n) words = false

-- one of the operands is a special function register that is written
abbrev pub writes_sfr : Inst → Bool
writes_sfr i = is_written_sfr i.a (words_written (row_of i.op).a) || is_written_sfr i.c (words_written (row_of i.op).c)

-- the resources below so many that are in a set, as a number
unfoldable pub set_below : ℕ → (ℕ → Bool) → ℕ
set_below zero p = 0
set_below (suc n) p = set_below n p + (if p n then 2 ^ n else 0)

-- the 32 registers and the condition code
abbrev pub set_of : (ℕ → Bool) → ℕ
set_of p = set_below 33 p

-- ---- needs

-- an end, and what does nothing but wait for all before it
abbrev pub blank_need : Need
blank_need = record {
  side = Ctl;
  reads = 0;
  writes = 0;
  request = false;
  store = None;
  slow = false;
  barrier = true;
  alone = false;
  cost = 1;
  code = (0, 0);
  not_before = 0;
}

-- neither another fault than an arithmetic or trace fault, nor a hazard
abbrev pub is_calm : Facts → Bool
is_calm f = not (f.fault || f.hazard)

-- an instruction, by its fields and what else is known of it; one that faults or meets a hazard keeps its resources
abbrev pub inst_need : Inst → Facts → Need
inst_need i f = record {
  side = issue_side i;
  reads = set_of (is_read i);
  writes = set_of (is_written i);
  request = is_request_name i.op && is_calm f;
  store = if is_store_name i.op && is_calm f then f.access else None;
  slow = is_slow_name i.op;
  barrier = is_barrier_name i.op || writes_sfr i || f.port || f.fault || f.trace || f.hazard;
  alone = f.alone;
  cost = if is_calm f then cost_by i.op f.waits f.frames else 1;
  code = (f.ip, 4 * words_of i);
  not_before = 0;
}

-- a refused word, and a fetch that meets a hazard
abbrev pub refused_need : ℕ → Need
refused_need ip = record blank_need { code = (ip, 4) }

-- an event, which may move a unit of a channel, and which does not issue below a turn
abbrev pub event_need : Bool → ℕ → Need
event_need moves not_before = record blank_need { cost = if moves then 4 else 1; not_before = not_before }

-- the entry of a fault or of an interrupt writes the locals and fp
abbrev pub entry_need : ℕ → Need
entry_need frames = record blank_need { writes = set_of is_in_frame; cost = 8 + 16 * frames }
