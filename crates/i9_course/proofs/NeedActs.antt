-- What a record does, by what its need says: what is no barrier keeps frames and controls, and leaves the check flag
-- clear, and what is no request besides writes no memory.
use Rattle.std.proofs.Common.{◌≡◌, ℕ, Bool, true, false, ◌&&◌, [], ◌⊎◌, arith}
use Rattle.i9_isa.specs.declared.inst.Inst.{Inst}
use Rattle.i9_model.specs.State.{State}
use Rattle.i9_model.specs.HeldFrames.{Cache}
use Rattle.i9_model.specs.Controls.{KeepsControls}
use Rattle.i9_model.specs.Step.{Action, Stays, action_of}
use Rattle.i9_model.specs.Run.{Kind, Instruction, action_by_kind}
use Rattle.i9_model.specs.Needs.{is_request_name, is_barrier_name}
use Rattle.i9_turns.proofs.NeedLaws.{first_false, quiet}
use Rattle.i9_course.specs.NeedOf.{need_of}

-- ---- an instruction

-- it keeps the controls and the trace controls, and leaves the check flag clear
pub record Keeps (s : State) (a : Action) : Type 0 where
  pub control : a.control ≡ KeepsControls
  pub check : a.check ≡ false
  pub tc : a.tc ≡ s.trace.tc

-- so does one that is no barrier by its name
pub instruction_keeps : (i : Inst) (s : State) → is_barrier_name i.op ≡ false → Keeps s (action_of i s)
unfolding action_of
instruction_keeps i s b = grind arith

-- ---- by the kind

calm_request : (b : Bool) → (b && true) ≡ b
calm_request b = grind arith

pub need_still : (n : ℕ) (c : Cache) (s : State) (k : Kind) → (need_of n c s k).request ≡ false
    → (need_of n c s k).barrier ≡ false
    → ((action_by_kind k s).writes ≡ []) × ((action_by_kind k s).move ≡ Stays)
    × ((action_by_kind k s).control ≡ KeepsControls)
unfolding need_of
need_still n c s k q b = grind (arith, first_false, quiet, calm_request, instruction_keeps)

pub need_requests : (n : ℕ) (c : Cache) (s : State) (k : Kind) → (need_of n c s k).request ≡ true
    → ((action_by_kind k s).move ≡ Stays) × ((action_by_kind k s).control ≡ KeepsControls)
unfolding action_of need_of
need_requests n c s k q = grind arith

pub need_named : (n : ℕ) (c : Cache) (s : State) (k : Kind) → (need_of n c s k).request ≡ true
    → ((i : Inst) × (k ≡ Instruction i) × (is_request_name i.op ≡ true)) ⊎ ((action_by_kind k s).writes ≡ [])
unfolding need_of
need_named n c s k q = grind (arith, calm_request)
