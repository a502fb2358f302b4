-- What trace events go by behind an effect, where something is done to the controls after a mere flush.
use Rattle.std.proofs.Common.{◌≡◌, ℕ, ap, arith}
use Rattle.i9_model.specs.Writes.{written}
use Rattle.i9_model.specs.Boot.{setup_of}
use Rattle.i9_model.specs.State.{State, start_trace, started}
use Rattle.i9_model.specs.Controls.{controlled}
use Rattle.i9_model.specs.Step.{moved}
use Rattle.i9_model.specs.Free.{ComesAfterFlush}
use Rattle.i9_processor.specs.declared.effect.Control.{Control}
use Rattle.i9_processor.specs.declared.effect.Control.TheVariants as controls
use Rattle.i9_processor.specs.declared.effect.Effect.{Effect}
use Rattle.i9_processor.specs.Effect.{control_in, move_in, writes_in, action_in}
use Rattle.i9_processor.specs.Tracing.{loaded_trace, trace_left}

pub left_keeps : (s : State) (e : Effect) → e.control ≡ controls.Keeps → trace_left s e ≡ record { tc = e.tc; breaks = s.trace.breaks }
unfolding trace_left moved
left_keeps s e is = ap (λ (c : Control). (controlled (moved s (action_in s e)) (control_in c)).trace) is

pub left_restarts : (s : State) (e : Effect) (first prcb : ℕ) → e.control ≡ controls.Restarts first prcb → ComesAfterFlush (control_in e.control) (move_in s e.frames) (writes_in e) → trace_left s e ≡ start_trace (setup_of s.memory first prcb)
unfolding moved started trace_left written
left_restarts s e first prcb is after = grind arith

pub left_loads : (s : State) (e : Effect) (group : ℕ) → e.control ≡ controls.LoadsGroup group → ComesAfterFlush (control_in e.control) (move_in s e.frames) (writes_in e) → trace_left s e ≡ loaded_trace s e.tc group
unfolding moved trace_left written
left_loads s e group is after = grind arith

pub ruleset trace_rules = (left_keeps, left_restarts, left_loads)
