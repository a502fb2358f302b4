-- A call or a return moves at most one frame.
use Rattle.std.proofs.Common.{◌≡◌, ℕ, ◌≤◌, true, refl, sym, subst, arith}
use Rattle.i9_isa.specs.declared.op.Op.{Op}
use Rattle.i9_isa.specs.declared.op.Op.TheVariants.{Call, Callx, Calls, Ret}
use Rattle.i9_isa.specs.declared.inst.Inst.{Inst}
use Rattle.i9_model.specs.State.{State}
use Rattle.i9_model.specs.HeldFrames.{Cache}
use Rattle.i9_model.specs.Needs.{is_barrier_name}
use Rattle.i9_model.specs.Step.{Action, action_by_name}
use Rattle.i9_model.specs.Traced.{traced_action}
use Rattle.i9_need.specs.Known.{moves_a_frame}
use Rattle.i9_course.specs.NeedOf.{moved_frames}
use Rattle.i9_plan.proofs.Outcomes.{barrier_kind, by_itself}

moving_waits : (op : Op) → moves_a_frame op ≡ true → is_barrier_name op ≡ true
moving_waits Call moves = refl
moving_waits _ moves = cc

named_one : (n : ℕ) (c : Cache) (op : Op) (i : Inst) (s : State) → moves_a_frame op ≡ true
    → moved_frames n c (action_by_name op i s).move ≤ 1
named_one n c Call i s moves = grind arith
named_one n c Callx i s moves = grind arith
named_one n c Calls i s moves = grind arith
named_one n c Ret i s moves = grind arith
named_one n c _ i s moves = absurd cc

pub moves_one : (n : ℕ) (c : Cache) (i : Inst) (s : State) → moves_a_frame i.op ≡ true
    → moved_frames n c (traced_action i s).move ≤ 1
moves_one n c i s moves =
    let named = by_itself i s (barrier_kind i.op (moving_waits i.op moves)).0 in
    subst (λ (a : Action). moved_frames n c a.move ≤ 1) (sym named) (named_one n c i.op i s moves)
