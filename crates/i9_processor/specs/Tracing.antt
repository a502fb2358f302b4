-- Trace controls and breakpoints behind the results of an effect.
use Rattle.std.specs.Prelude.{ℕ}
use Rattle.i9_model.specs.State.{State}
use Rattle.i9_model.specs.State as states
use Rattle.i9_model.specs.Tables.{group_words}
use Rattle.i9_model.specs.Controls.{with_group, controlled}
use Rattle.i9_model.specs.Step.{moved}
use Rattle.i9_processor.specs.declared.processor.tracing.TraceControls.{TraceControls}
use Rattle.i9_processor.specs.declared.effect.Effect.{Effect}
use Rattle.i9_processor.specs.Effect.{control_in, action_in}

abbrev pub controls_of : TraceControls → states.TraceControls
controls_of c = record { tc = c.tc; breaks = c.breaks }

-- behind the load of a group of the control table, from such trace controls
abbrev pub loaded_trace : State → ℕ → ℕ → states.TraceControls
loaded_trace s tc group =
    (with_group (record s { trace = record s.trace { tc = tc } }) group
    (group_words s.memory s.tables.control_table group)).trace

-- behind the results of an effect, before trace events set flags
unfoldable pub trace_left : State → Effect → states.TraceControls
trace_left s e = (controlled (moved s (action_in s e)) (control_in e.control)).trace
