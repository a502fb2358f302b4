-- What an instruction does has trace events only where trace enable is set.
use Rattle.std.proofs.Common.{◌≡◌, false, None, arith}
use Rattle.i9_isa.specs.declared.inst.Inst.{Inst}
use Rattle.i9_model.specs.State.{State}
use Rattle.i9_model.specs.Step.{action_of}
use Rattle.i9_model.specs.Traced.{is_traced, traced_action}
use Rattle.i9_model.specs.Tracing.{trace_of}

pub action_untraced : (i : Inst) (s : State) → (action_of i s).trace ≡ None
unfolding action_of
action_untraced i s = grind arith

-- so it is the same with its trace events where trace enable is clear
pub traced_clear : (i : Inst) (s : State) → is_traced s ≡ false → traced_action i s ≡ action_of i s
unfolding trace_of
traced_clear i s clear = grind (arith, action_untraced)
