-- What sysctl does to the controls: it starts the processor anew, or loads a control group.
use Rattle.std.specs.Prelude.{ℕ, ◌-◌, ◌*◌, ◌==◌, Bool, ◌||◌, ◌&&◌, not, if◌then◌else◌, bit_and, slice_index, List, []}
use Rattle.std.specs.Prelude.{◌∷◌}
use Rattle.i9_model.specs.declared.layout.TheConstants.{TC_MASK}
use Rattle.i9_model.specs.Boot.{setup_of, with_regions, configured}
use Rattle.i9_model.specs.State.{State, start_sets, started}
use Rattle.i9_model.specs.Frames.{has, is_put}
use Rattle.i9_model.specs.Tables.{group_words}

-- nothing; start-up by the PRCB at an address, with a first instruction address; or the load of a control group
pub data Control : Type 0 where
  KeepsControls : Control
  Restarts : (first : ℕ) → (prcb : ℕ) → Control
  LoadsGroup : (group : ℕ) → Control

-- the four words of a group as the breakpoints of instructions and of data
abbrev pub with_breakpoints : State → List ℕ → State
with_breakpoints s ws = record s {
  trace = record s.trace {
    breaks = record s.trace.breaks {
      ipb = slice_index ws 0 ∷ slice_index ws 1 ∷ [];
      dab = slice_index ws 2 ∷ slice_index ws 3 ∷ [];
    };
  };
}

-- the four words as the interrupt maps and the control word of pins
abbrev pub with_maps : State → List ℕ → State
with_maps s ws = record s {
  interrupts = record s.interrupts
      { maps = slice_index ws 0 ∷ slice_index ws 1 ∷ slice_index ws 2 ∷ []; icon = slice_index ws 3 };
}

-- the second and the third as the controls of breakpoints and of tracing
abbrev pub with_trace_controls : State → List ℕ → State
with_trace_controls s ws = record s {
  trace = record {
    tc = bit_and (slice_index ws 2) TC_MASK;
    breaks = record s.trace.breaks { bpcon = slice_index ws 1 };
  };
}

-- Group 0 has the breakpoints, group 1 the interrupt maps and pins, groups 2 to 5 the configuration words of regions,
-- four each, and group 6 the controls of breakpoints and of tracing.
abbrev pub with_group : State → ℕ → List ℕ → State
with_group s group ws =
    if group == 0 then with_breakpoints s ws
    else if group == 1 then with_maps s ws
    else if group == 6 then with_trace_controls s ws
    else record s { memory = with_regions s.memory (4 * (group - 2)) ws }

-- of the registers that are set, these get marks, and the others lose theirs
abbrev pub marks_after : (ℕ → Bool) → List (ℕ × ℕ) → List ℕ → ℕ → Bool
marks_after marks sets marked r = has marked r || (marks r && not (is_put sets r))

-- g0 to g14 with their marks, the bytes of memory, the frames, the levels of pins and the count stay where the
-- processor starts anew
abbrev pub controlled : State → Control → State
controlled s KeepsControls = s
controlled s (Restarts first prcb) =
    let u = setup_of s.memory first prcb in
    record (started u s.regs s.count s.interrupts.low (configured s.memory u.control) s.frames) {
      marks = marks_after s.marks (start_sets u) [];
      reading = s.reading;
    }
controlled s (LoadsGroup group) = with_group s group (group_words s.memory s.tables.control_table group)
