-- What a step prints and what it needs, from its effect.
use Rattle.std.specs.Prelude.{◌≡◌, ℕ, ◌+◌, ◌≤◌, Bool, false, ◌||◌, nat_lt, List, [], ◌∷◌, ◌++◌, length, Option, None}
use Rattle.std.specs.Prelude.{Some, if◌then◌else◌}
use Rattle.std.specs.List.{slice_get}
use Rattle.std.specs.Option.{option_map}
use Rattle.i9_model.specs.declared.event.Event.{Event}
use Rattle.i9_model.specs.declared.event.Event.TheVariants.{Pin, Low, High, Nmi, Dma, Feed, Show}
use Rattle.i9_model.specs.Memory.{console_byte}
use Rattle.i9_model.specs.State.{State}
use Rattle.i9_model.specs.Step.{Action}
use Rattle.i9_schedule.specs.Plan.{Plan}
use Rattle.i9_processor.specs.State.{state_of}
use Rattle.i9_model.specs.declared.run.Point.{Point}
use Rattle.i9_model.specs.PrintedText.{Shown, Journal, bytes_lines, out_lines, point_lines}
use Rattle.i9_processor.specs.declared.effect.Effect.{Effect}
use Rattle.i9_processor.specs.declared.processor.Processor.{Processor}
use Rattle.i9_processor.specs.Effect.{writes_in, action_in, control_in}
use Rattle.i9_processor.specs.Effect.{HasSpaceFor, IsLight, has_writes, is_restart}
use Rattle.i9_machine.specs.declared.machine.Machine.{Machine}
use Rattle.i9_machine.specs.declared.step.Step.{Step}

-- the lines of an event that is reached, where one is, from the state before it
abbrev pub reached_lines : Option Event → State → List Shown
reached_lines None s = []
reached_lines (Some event) s = Journal s.count event ∷ bytes_lines event s

-- the event that is reached, the next one of a schedule, where one is
abbrev pub next_event : Plan → Bool → Option Event
next_event plan reaches = if reaches then option_map (λ t. t.event) (slice_get plan.events plan.place) else None

-- the event that a step reaches, where it reaches one
abbrev pub event_in : Plan → Step → Option Event
event_in plan step = next_event plan step.reaches

-- the lines of a step that reaches an event or none, from the states before and after it
abbrev pub lines_of : Effect → Step → Option Event → State → State → List Shown
lines_of e step event s t = reached_lines event s
    ++ (out_lines (console_byte (writes_in e)) ++ point_lines (step.point) t)

-- how many bytes lines an event has
abbrev pub bytes_count : Event → ℕ
bytes_count (Pin x) = 0
bytes_count (Low x) = 0
bytes_count (High x) = 0
bytes_count Nmi = 0
bytes_count (Dma c) = 0
bytes_count (Feed c bytes) = 0
bytes_count (Show a n) = 1

abbrev pub reached_count : Option Event → ℕ
reached_count None = 0
reached_count (Some event) = 1 + bytes_count event

-- how many drained points are printed
abbrev pub point_count : Option Point → ℕ
point_count None = 0
point_count (Some kind) = 1

-- how many lines are printed
abbrev pub line_count : Effect → Step → Option Event → ℕ
line_count e step event = reached_count event +
    (length (out_lines (console_byte (writes_in e))) + point_count (step.point))

-- it prints lines, stores bytes, saves a frame, or makes new sets
abbrev pub asks_room : State → Effect → Step → Option Event → Bool
asks_room s e step event =
    nat_lt 0 (line_count e step event) || (has_writes (action_in s e) || is_restart (action_in s e).control)

-- There is room for a step, with this many lines to spare: for its lines, and for what it stores and saves; and no new
-- sets are made.
pub record HasRoomForStep (p : Processor) (spare : ℕ) (e : Effect) (step : Step) (event : Option Event) : Type 0 where
  pub lines : line_count e step event ≤ spare
  pub effect : HasSpaceFor p e
  pub no_sets : is_restart (control_in e.control) ≡ false

-- what is planned in a machine has a light effect, and is no barrier
pub record PlansLight (m : Machine) : Type 0 where
  pub effect : IsLight m.effect
  pub barrier : m.need.barrier ≡ false

-- the action that an effect is for a machine
abbrev pub action_for : Machine → Effect → Action
action_for m e = action_in (state_of m.pipeline.processor) e

-- a schedule behind the event that is reached, where one is
abbrev pub plan_behind_event : Plan → Bool → Plan
plan_behind_event plan reaches = record plan { place = plan.place + (if reaches then 1 else 0) }
