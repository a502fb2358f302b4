-- States that are alike give the same need.
use Rattle.std.proofs.Common.{◌≡◌, ℕ, Bool, false, Option, Some, None, refl, ap, ◌∙◌, arith}
use Rattle.std.specs.Option.{option_map}
use Rattle.std.proofs.lemmas.Bool.{cases_Bool}
use Rattle.i9_isa.specs.declared.op.Op.{Op}
use Rattle.i9_isa.specs.declared.op.Op.TheVariants.{Sysctl}
use Rattle.i9_isa.specs.declared.inst.Inst.{Inst}
use Rattle.i9_isa.specs.declared.size.Size.{Size}
use Rattle.i9_isa.specs.declared.size.Direction.{Direction}
use Rattle.i9_isa.specs.declared.size.Transfer.{Transfer}
use Rattle.i9_isa.specs.Transfers.{transfer_of}
use Rattle.i9_model.specs.declared.trace.Seen.{Seen}
use Rattle.i9_model.specs.State.{State}
use Rattle.i9_model.specs.Branches.{is_taken}
use Rattle.i9_model.specs.Operands.{value}
use Rattle.i9_model.specs.Step.{Action, Message, moving, asked_message, message_action, action_by_name, action_by, action_of, moved, acted}
use Rattle.i9_model.specs.Access.{Access, message_access, access_by_name, access_by, access_of, data_of}
use Rattle.i9_model.specs.Traced.{traced_action}
use Rattle.i9_model.specs.Alike.{with_other, with_memory, AreAlike, AreNextAlike}
use Rattle.i9_model.specs.HeldFrames.{Cache}
use Rattle.i9_model.specs.Run.{Next, Kind, Instruction}
use Rattle.i9_model.specs.Needs.{is_barrier_name, inst_need}
use Rattle.i9_past.proofs.Untraced.{action_untraced}
use Rattle.i9_course.proofs.NeedActs.{instruction_keeps}
use Rattle.i9_course.specs.NeedOf.{moved_frames, access_waits, facts_of, need_of, need_ahead}

-- ---- the frames that are moved and the access do not depend on bytes of memory

abbrev AreSame : ℕ → Cache → Action → Action → Access → Access → Type 0
AreSame n c a b x y = (moved_frames n c a.move ≡ moved_frames n c b.move) × (x ≡ y)

module _ (n : ℕ) (c : Cache) (i : Inst) (s : State) (bytes : ℕ → ℕ) where
  message_same : (m : Message)
      → AreSame n c (message_action m i (with_memory s bytes)) (message_action m i s)
      (message_access m i (with_memory s bytes)) (message_access m i s)
  message_same m = grind arith

  name_same : (op : Op)
      → AreSame n c (action_by_name op i (with_memory s bytes)) (action_by_name op i s)
      (access_by_name op i (with_memory s bytes)) (access_by_name op i s)
  name_same Sysctl = message_same (asked_message i s)
  name_same _ = (refl, refl)

  moving_frames : (d : Direction) (size : Size) (signed : Bool)
      → moved_frames n c (moving d size signed i (with_memory s bytes)).move
      ≡ moved_frames n c (moving d size signed i s).move
  moving_frames d size signed = grind arith

  action_same : AreSame n c (action_of i (with_memory s bytes)) (action_of i s)
      (access_of i (with_memory s bytes)) (access_of i s)
  unfolding action_of
  action_same = by_transfer (transfer_of i.op)
    where
      by_transfer : (o : Option Transfer)
          → AreSame n c (action_by o i (with_memory s bytes)) (action_by o i s)
          (access_by o i (with_memory s bytes)) (access_by o i s)
      by_transfer (Some t) = (moving_frames t.direction t.size t.signed, refl)
      by_transfer None = name_same i.op

-- ---- nor do the trace events of what is no barrier by its name

-- what is seen of it
abbrev plain_seen : Inst → State → Access → Seen
plain_seen i s x = record {
  address = s.ip;
  access = option_map (λ d. d.0) (data_of x);
  taken = is_taken i (value s i.a) (value s i.b) s.ac;
  switched = false;
}

trace_same : (i : Inst) (s : State) (bytes : ℕ → ℕ) → access_of i (with_memory s bytes) ≡ access_of i s
    → is_barrier_name i.op ≡ false
    → (traced_action i (with_memory s bytes)).trace ≡ (traced_action i s).trace
unfolding acted moved
trace_same i s bytes access h = grind (arith, action_untraced, instruction_keeps)

-- ---- the facts of an instruction

pub waits_same : (s : State) (bytes : ℕ → ℕ) (x : Access)
    → access_waits (with_other s.memory bytes) x ≡ access_waits s.memory x
waits_same s bytes x = grind arith

facts_same : (i : Inst) (s : State) (bytes : ℕ → ℕ) (frames : ℕ) (fault trace : Bool)
    → access_of i (with_memory s bytes) ≡ access_of i s
    → facts_of i (with_memory s bytes) frames fault trace ≡ facts_of i s frames fault trace
facts_same i s bytes frames fault trace access = grind (arith, waits_same)

-- whether it raises a trace fault decides only whether it is a barrier
trace_needed : (i : Inst) (s : State) (frames : ℕ) (p q : Bool) → (is_barrier_name i.op ≡ false → p ≡ q)
    → inst_need i (facts_of i s frames false p) ≡ inst_need i (facts_of i s frames false q)
trace_needed i s frames p q same = grind (arith, cases_Bool)

-- ---- needs

instruction_same : (n : ℕ) (c : Cache) (i : Inst) (s : State) (bytes : ℕ → ℕ)
    → need_of n c (with_memory s bytes) (Instruction i) ≡ need_of n c s (Instruction i)
unfolding need_of
instruction_same n c i s bytes = grind (arith, action_same, facts_same, trace_needed, trace_same)

need_same : (n : ℕ) (c : Cache) (k : Kind) (s : State) (bytes : ℕ → ℕ)
    → need_of n c (with_memory s bytes) k ≡ need_of n c s k
unfolding need_of
need_same n c k s bytes = grind (arith, instruction_same, facts_same, action_same)

pub need_alike : (n : ℕ) (c : Cache) (s t : State) (k : Kind) → AreAlike s t → need_of n c t k ≡ need_of n c s k
need_alike n c s t k alike = ap (λ (u : State). need_of n c u k) alike.rest ∙ need_same n c k s t.memory.bytes

-- with the same number of sets, too
pub next_need_alike : (asked : Option ℕ) (c : Cache) (o p : Next) → AreNextAlike o p
    → need_ahead asked c p ≡ need_ahead asked c o
next_need_alike asked c o p alike = grind (arith, need_alike)
