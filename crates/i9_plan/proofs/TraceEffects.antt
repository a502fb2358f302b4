-- The effect of an instruction with its trace events.
use Rattle.i9_model.specs.Stale.{misuses}
use Rattle.std.proofs.Common.{ℕ, Some, None, ◌≡◌, false, Option, None, Ok, sym, ap, ◌∙◌, subst, arith, Bool, true, cond}
use Rattle.i9_isa.specs.declared.inst.Inst.{Inst}
use Rattle.i9_model.specs.declared.trace.Trace.{Trace}
use Rattle.i9_model.specs.State.{State, TraceControls}
use Rattle.i9_model.specs.Access.{hazard_of}
use Rattle.i9_model.specs.Controls.{controlled}
use Rattle.i9_model.specs.Free.{ComesAfterFlush}
use Rattle.i9_model.specs.Step.{Action, action_of, moved, flagged, acted}
use Rattle.i9_model.specs.Tracing.{trace_of}
use Rattle.i9_model.specs.Traced.{is_traced, seen_of, trace_left, traced_action}
use Rattle.i9_model.specs.Standing.{Runs, by_word, Meets, raised_in, later_fault, by_later, by_raised}
use Rattle.i9_agree.proofs.SoundRuns.{action_clear}
use Rattle.i9_past.proofs.Untraced.{action_untraced, traced_clear}
use Rattle.i9_processor.specs.declared.processor.tracing.TraceControls.{TraceControls as Controls}
use Rattle.i9_processor.specs.declared.effect.Effect.{Effect}
use Rattle.i9_processor.specs.Effect.{IsEffect, action_in, control_in, move_in, writes_in}
use Rattle.i9_processor.specs.Tracing.{controls_of}
use Rattle.i9_processor.specs.Tracing as left

-- ---- an instruction that runs meets no hazard

later_clear : (i : Inst) (s : State) (f : Option (ℕ × ℕ)) → Runs i ≡ by_later i s f → hazard_of i s ≡ None
later_clear i s (Some number) runs = absurd cc
later_clear i s None runs = grind arith

raised_clear : (i : Inst) (s : State) (o : Option (ℕ × ℕ)) → Runs i ≡ by_raised i s o → hazard_of i s ≡ None
raised_clear i s (Some number) runs = absurd cc
raised_clear i s None runs = later_clear i s (later_fault i s) runs

pub runs_clear : (i : Inst) (s : State) → Runs i ≡ by_word s (Ok i) → hazard_of i s ≡ None
runs_clear i s runs = by (misuses i s) runs
  where
    by : (m : Bool) → Runs i ≡ cond m (Meets s.ip) (by_raised i s (raised_in i s)) → hazard_of i s ≡ None
    by true runs = absurd cc
    by false runs = raised_clear i s (raised_in i s) runs

-- ---- its effect, with its trace events

-- what is done to the controls comes after a mere flush
pub comes_after_flush : (s : State) (i : Inst) (e : Effect) → hazard_of i s ≡ None → IsEffect s (action_of i s) e
    → ComesAfterFlush (control_in e.control) (move_in s e.frames) (writes_in e)
comes_after_flush s i e clear effect =
    subst (λ (a : Action). ComesAfterFlush a.control a.move a.writes) (sym effect.same) (action_clear i s clear).free.controls

-- trace controls and breakpoints behind the effect are those behind the instruction
left_behind : (s : State) (i : Inst) (e : Effect) → IsEffect s (action_of i s) e → left.trace_left s e ≡ (acted s (action_of i s)).trace
unfolding left.trace_left acted
left_behind s i e effect =
    ap (λ (a : Action). (controlled (moved s a) a.control).trace) effect.same
    ∙ sym (ap (λ (o : Option Trace). (flagged o (controlled (moved s (action_of i s)) (action_of i s).control)).trace) (action_untraced i s))

pub traced_same : (s : State) (i : Inst) (e : Effect) (c : Controls) (o : Option Trace) → IsEffect s (action_of i s) e
    → controls_of c ≡ left.trace_left s e → o ≡ trace_of c.tc s.pc i (seen_of i s (action_in s e)) c.breaks
    → record (action_in s e) { trace = o } ≡ traced_action i s
unfolding moved
traced_same s i e c o effect behind is =
    let a = action_of i s in
    ap (λ (x : Option Trace). record (action_in s e) { trace = x }) is
    ∙ ap (λ (x : Action). record x { trace = trace_of c.tc s.pc i (seen_of i s x) c.breaks }) effect.same
    ∙ ap (λ (x : TraceControls). record a { trace = trace_left i s a x }) (behind ∙ left_behind s i e effect)

-- while trace enable is clear the effect is already the one with its trace events
pub untraced_effect : (s : State) (i : Inst) (e : Effect) → is_traced s ≡ false → IsEffect s (action_of i s) e → IsEffect s (traced_action i s) e
untraced_effect s i e clear effect = subst (λ (a : Action). IsEffect s a e) (sym (traced_clear i s clear)) effect
