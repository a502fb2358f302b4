-- What start-up and the load of a control group leave as it was.
use Rattle.std.proofs.Common.{◌≡◌, ℕ, Bool, cond, List, Option, ap, ◌∙◌, arith}
use Rattle.std.specs.Prelude.{◌-◌, ◌*◌}
use Rattle.i9_model.specs.Boot.{with_regions}
use Rattle.i9_model.specs.State.{State, started}
use Rattle.i9_model.specs.Controls.{Control, with_breakpoints, with_maps, with_trace_controls, controlled}
use Rattle.i9_model.specs.declared.trace.Trace.{Trace}
use Rattle.i9_model.specs.Step.{Action, moved, flagged, acted}

-- the words of a group by which it is: 0, 1, 6 or another
abbrev pub by_group : Bool → Bool → Bool → State → ℕ → List ℕ → State
by_group a b c s group ws =
    cond a (with_breakpoints s ws) (cond b (with_maps s ws) (cond c (with_trace_controls s ws) (record s { memory = with_regions s.memory (4 * (group - 2)) ws })))

pub controlled-frames : (s : State) (c : Control) → (controlled s c).frames ≡ s.frames
unfolding started
controlled-frames s c = grind arith

-- the flags of trace events are in the trace controls alone
pub flagged-others : (t : Option Trace) (s : State) → flagged t s ≡ record s { trace = (flagged t s).trace }
flagged-others t s = grind arith

pub acted-count : (s : State) (a : Action) → (acted s a).count ≡ s.count
unfolding acted moved started
acted-count s a = grind arith

pub acted-frames : (s : State) (a : Action) → (acted s a).frames ≡ (moved s a).frames
unfolding acted
acted-frames s a = ap (λ (x : State). x.frames) (flagged-others a.trace (controlled (moved s a) a.control)) ∙ controlled-frames (moved s a) a.control
