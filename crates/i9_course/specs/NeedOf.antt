-- What a record needs, by its kind: from the state before it, and from the frames that are held before it.
use Rattle.std.specs.Prelude.{ℕ, ◌+◌, ◌==◌, nat_lt, not, ◌||◌, Bool, true, false, if◌then◌else◌, Option, Some, None}
use Rattle.std.specs.Prelude.{length}
use Rattle.std.specs.List.{list_any}
use Rattle.std.specs.Option.{is_some}
use Rattle.i9_isa.specs.declared.inst.Inst.{Inst}
use Rattle.i9_isa.specs.Words.{bit}
use Rattle.i9_model.specs.declared.layout.TheConstants.{PRECISE_FAULTS_PLACE}
use Rattle.i9_model.specs.declared.faults.TheConstants.{ARITHMETIC}
use Rattle.i9_model.specs.declared.faults.Fault.{Fault}
use Rattle.i9_model.specs.declared.event.Event.{Event}
use Rattle.i9_model.specs.declared.event.Event.TheVariants.{Dma, Feed}
use Rattle.i9_model.specs.declared.need.Facts.{Facts}
use Rattle.i9_model.specs.declared.need.Need.{Need}
use Rattle.i9_model.specs.Memory.{Memory, region_of, waits_of, in_port_page}
use Rattle.i9_model.specs.State.{State}
use Rattle.i9_model.specs.Frames.{places}
use Rattle.i9_model.specs.Step.{Move, Stays, Saves, Returns, Flushes}
use Rattle.i9_model.specs.Access.{Access, Reads, Writes, Changes, access_of, data_of}
use Rattle.i9_model.specs.Traced.{is_traced, traced_action}
use Rattle.i9_model.specs.HeldFrames.{Cache, sets_in}
use Rattle.i9_model.specs.Run.{Kind, Instruction, Faulted, Entered, Interrupted, Reached, Record, Next, Does, Ends}
use Rattle.i9_model.specs.Run.{action_by_kind}
use Rattle.i9_model.specs.Needs.{is_barrier_name, blank_need, inst_need, refused_need, event_need, entry_need}

-- ---- the facts of an instruction

-- how many frames a move spills, refills or flushes, with n sets
abbrev pub moved_frames : ℕ → Cache → Move → ℕ
moved_frames n c Stays = 0
moved_frames n c (Saves save words) = if nat_lt (length c.held) n then 0 else 1
moved_frames n c Returns = if length c.held == 0 then 1 else 0
moved_frames n c Flushes = length c.held

-- the access has a byte in the port page
abbrev pub touches_port : Option (ℕ × ℕ) → Bool
touches_port None = false
touches_port (Some p) = list_any in_port_page (places p.0 p.1)

-- the wait states of an access, by the region of its address: those of a read, of a write, or of both
abbrev pub access_waits : Memory → Access → ℕ
access_waits m (Reads a n) = waits_of m (region_of a) false
access_waits m (Writes a n) = waits_of m (region_of a) true
access_waits m (Changes a n) = waits_of m (region_of a) false + waits_of m (region_of a) true
access_waits m _ = 0

-- bit 15 of AC or trace enable is set, so that an instruction in this state passes nothing
abbrev pub stands_alone : State → Bool
stands_alone s = bit s.ac PRECISE_FAULTS_PLACE || is_traced s

-- what is known of an instruction that meets no hazard, with the number of frames that it moves, whether it raises
-- another fault than an arithmetic or a trace fault, and whether it raises a trace fault
abbrev pub facts_of : Inst → State → ℕ → Bool → Bool → Facts
facts_of i s frames fault trace = record {
  ip = s.ip;
  access = data_of (access_of i s);
  port = touches_port (data_of (access_of i s));
  waits = access_waits s.memory (access_of i s);
  frames = frames;
  fault = fault;
  trace = trace;
  hazard = false;
  alone = stands_alone s;
}

-- ---- by the kind of a record

-- another fault than an arithmetic one, which is raised before anything is done
abbrev pub is_early : Fault → Bool
is_early fault = not (fault.kind == ARITHMETIC)

-- an event of DMA, which takes the turns of a unit whether it moves one or not
abbrev pub is_of_dma : Event → Bool
is_of_dma (Dma c) = true
is_of_dma (Feed c bytes) = true
is_of_dma _ = false

-- what is done passes nothing, and nothing passes it, by its kind and name alone
abbrev pub is_barrier_kind : Kind → Bool
is_barrier_kind (Instruction i) = is_barrier_name i.op
is_barrier_kind (Faulted None fault) = true
is_barrier_kind (Faulted (Some i) fault) = is_early fault || is_barrier_name i.op
is_barrier_kind (Entered e) = true
is_barrier_kind (Interrupted x e) = true
is_barrier_kind (Reached e u) = true

-- how many frames a record of a kind moves
abbrev pub frames_of : ℕ → Cache → State → Kind → ℕ
frames_of n c s k = moved_frames n c (action_by_kind k s).move

-- what a record of a kind needs, with n sets, from what is held before it and the state before it
unfoldable pub need_of : ℕ → Cache → State → Kind → Need
need_of n c s (Instruction i) =
    inst_need i (facts_of i s (frames_of n c s (Instruction i)) false (is_some (traced_action i s).trace))
need_of n c s (Faulted None fault) = refused_need s.ip
need_of n c s (Faulted (Some i) fault) = inst_need i (facts_of i s 0 (is_early fault) false)
need_of n c s (Entered e) = entry_need (frames_of n c s (Entered e))
need_of n c s (Interrupted x e) = entry_need (frames_of n c s (Interrupted x e))
need_of n c s (Reached e u) = event_need (is_of_dma e) 0

-- what a record needs, from what is held before it, where this number of sets is asked for
abbrev pub record_need : Option ℕ → Cache → Record → Need
record_need asked c r = need_of (sets_in asked r.before) c r.before r.kind

-- what is needed by what comes next; an end waits for all before it
abbrev pub need_ahead : Option ℕ → Cache → Next → Need
need_ahead asked c (Does r) = record_need asked c r
need_ahead asked c (Ends f) = blank_need
