-- A run as the list of its records, newest first.
use Rattle.std.specs.Prelude.{◌≡◌, ℕ, ◌==◌, if◌then◌else◌, Option, Some, None, List, [], ◌∷◌, ◌++◌, length, Result, Ok}
use Rattle.std.specs.Prelude.{Err}
use Rattle.std.specs.Option.{option_map}
use Rattle.i9_isa.specs.declared.op.Op.{Op}
use Rattle.i9_isa.specs.declared.op.Op.TheVariants.{Flushreg, Syncf}
use Rattle.i9_isa.specs.declared.inst.Inst.{Inst}
use Rattle.i9_isa.specs.Words.{words_of}
use Rattle.i9_model.specs.declared.faults.TheConstants.{TRACE}
use Rattle.i9_model.specs.declared.faults.Fault.{Fault}
use Rattle.i9_model.specs.declared.faults.Entry.{Entry}
use Rattle.i9_model.specs.declared.faults.FaultStop.{FaultStop}
use Rattle.i9_model.specs.declared.faults.FaultStop.TheVariants as stops
use Rattle.i9_model.specs.declared.trace.Trace.{Trace}
use Rattle.i9_model.specs.declared.interrupts.Chosen.{Chosen}
use Rattle.i9_model.specs.declared.event.Event.{Event}
use Rattle.i9_model.specs.declared.event.Timed.{Timed}
use Rattle.i9_model.specs.Memory.{exit_word}
use Rattle.i9_model.specs.State.{State, boot}
use Rattle.i9_model.specs.Step.{Action, faulting, entering, acted, counted}
use Rattle.i9_model.specs.Traced.{traced_action}
use Rattle.i9_model.specs.Before.{Received, choice_in, interrupt_in, interrupting, received_in, receiving}
use Rattle.i9_model.specs.ScheduleText.{timed_at, standing}
use Rattle.i9_model.specs.Standing.{Standing, Meets, Refused, Faults, Runs, stands_at}
use Rattle.i9_model.specs.Stale.{area_hazard}
use Rattle.i9_model.specs.Calls.{caller_in}
use Rattle.i9_model.specs.Faults.{planned_fault_by}
pub use Rattle.i9_model.specs.Given.{Given}
pub use Rattle.i9_model.specs.declared.run.End.{End}
pub use Rattle.i9_model.specs.declared.run.End.TheVariants.{Exit, Limit, Hazard, Dead, Imprecise}
pub use Rattle.i9_model.specs.declared.run.Point.{Point}
pub use Rattle.i9_model.specs.declared.run.Due.{Due}
use Rattle.i9_model.specs.declared.run.Point.TheVariants as points
use Rattle.i9_model.specs.declared.run.Due.TheVariants as dues

-- what was done: an instruction, traced or not; one that faulted, where its word is not refused, with its fault; the
-- entry of the fault; the entry of an interrupt that was chosen; or an event that was reached, with what it does
pub data Kind : Type 0 where
  Instruction : (inst : Inst) → Kind
  Faulted : (inst : Option Inst) → (fault : Fault) → Kind
  Entered : (entry : Entry) → Kind
  Interrupted : (choice : Chosen) → (entry : Entry) → Kind
  Reached : (event : Event) → (does : Received) → Kind

-- what was done, and the states before and after it
pub record Record : Type 0 where
  pub kind : Kind
  pub before : State
  pub after : State

-- how a run ends, and the event that was reached with the end: one that meets a hazard does nothing, and ends the run
pub record Finish : Type 0 where
  pub event : Option Event
  pub end : End

-- an end with which no event was reached
abbrev pub finish : End → Finish
finish f = record { event = None; end = f }

-- the end at the hazard of an event
abbrev pub finish_at : Event → ℕ → Finish
finish_at e a = record { event = Some e; end = Hazard a }

pub data Next : Type 0 where
  Does : Record → Next
  Ends : Finish → Next

-- ---- by the kind of a record

-- a word that is refused counts as one
abbrev pub faulted_words : Option Inst → ℕ
faulted_words None = 1
faulted_words (Some i) = words_of i

-- what it does, from the state before it
abbrev pub action_by_kind : Kind → State → Action
action_by_kind (Instruction i) s = traced_action i s
action_by_kind (Faulted inst fault) s = faulting (faulted_words inst) s
action_by_kind (Entered e) s = entering e s
action_by_kind (Interrupted c e) s = interrupting c e s
action_by_kind (Reached e u) s = receiving u s

-- how many instructions it counts: an entry is none, and no more is an event
abbrev pub counts_of : Kind → ℕ
counts_of (Instruction i) = 1
counts_of (Faulted inst fault) = 1
counts_of (Entered e) = 0
counts_of (Interrupted c e) = 0
counts_of (Reached e u) = 0

abbrev pub point_by_name : Op → Option Point
point_by_name Flushreg = Some points.Flush
point_by_name Syncf = Some points.Sync
point_by_name _ = None

-- the drained point behind it
abbrev pub point_of : Kind → Option Point
point_of (Instruction i) = point_by_name i.op
point_of (Faulted inst fault) = None
point_of (Entered e) = Some points.Fault
point_of (Interrupted c e) = Some points.Int
point_of (Reached e u) = Some points.Event

-- the state after it, from the one before
abbrev pub after_kind : Kind → State → State
after_kind k s = counted (counts_of k) (acted s (action_by_kind k s))

-- the record of something that is done in a state
abbrev pub record_of : Kind → State → Record
record_of k s = record { kind = k; before = s; after = after_kind k s }

-- what a record did
abbrev pub action_done : Record → Action
action_done r = action_by_kind r.kind r.before

-- ---- what is due

-- the exit that an action brings in a state
abbrev pub exit_in : State → Action → Option End
exit_in s a = option_map Exit (exit_word s.memory a.writes)

-- the fault of the instruction at the instruction address, by type and subtype
abbrev pub fault_at : State → ℕ × ℕ → Fault
fault_at s number = record { kind = number.0; subtype = number.1; address = s.ip }

-- an exit ends the run, and comes before the fault of trace events
abbrev pub due_in : State → Option Trace → Option End → Due
due_in s trace (Some f) = dues.End f
due_in s None None = dues.Nothing
due_in s (Some t) None = dues.Entry (fault_at s (TRACE, t.subtype))

-- what an action brings of itself
abbrev pub action_due : State → Action → Due
action_due s a = due_in s a.trace (exit_in s a)

-- what comes after a record whatever the length: nothing, an end, or the entry of its fault
abbrev pub due_by : Kind → State → Due
due_by (Instruction i) s = action_due s (traced_action i s)
due_by (Faulted inst fault) s = dues.Entry fault
due_by (Entered e) s = dues.Nothing
due_by (Interrupted c e) s = dues.Nothing
due_by (Reached e u) s = dues.Nothing

abbrev pub due_after : List Record → Due
due_after [] = dues.Nothing
due_after (r ∷ rs) = due_by r.kind r.before

-- ---- what comes next

-- an instruction is done or faults, unless a hazard is met
abbrev pub next_by_standing : State → Standing → Next
next_by_standing s (Meets a) = Ends (finish (Hazard a))
next_by_standing s (Refused number) = Does (record_of (Faulted None (fault_at s number)) s)
next_by_standing s (Faults i number) = Does (record_of (Faulted (Some i) (fault_at s number)) s)
next_by_standing s (Runs i) = Does (record_of (Instruction i) s)

-- a fault is entered, unless that meets a hazard or a dead entry
abbrev pub next_by_entry : State → Result Entry FaultStop → Next
next_by_entry s (Ok e) = Does (record_of (Entered e) s)
next_by_entry s (Err (stops.Hazard a)) = Ends (finish (Hazard a))
next_by_entry s (Err (stops.Dead code a)) = Ends (finish (Dead code a))

-- the entry of a fault in a state
unfoldable pub entry_in : State → Fault → Result Entry FaultStop
entry_in s fault =
    planned_fault_by (caller_in s) s.tables.fault_table s.tables.system_table fault s.ac (area_hazard s)

-- an event does what it does, unless that meets a hazard; it is reached in either case
abbrev pub next_by_received : State → Event → Result Received ℕ → Next
next_by_received s e (Ok u) = Does (record_of (Reached e u) s)
next_by_received s e (Err a) = Ends (finish_at e a)

-- the event that stands there is reached; where none does it is the instruction's turn
abbrev pub next_by_event : Option Event → State → Next
next_by_event (Some e) s = next_by_received s e (received_in s e)
next_by_event None s = next_by_standing s (stands_at s)

-- an interrupt is entered, unless that meets a hazard
abbrev pub next_by_interrupt : State → Chosen → Result Entry ℕ → Next
next_by_interrupt s c (Ok e) = Does (record_of (Interrupted c e) s)
next_by_interrupt s c (Err a) = Ends (finish (Hazard a))

-- an interrupt that is chosen comes before an event and before an instruction; the choice may meet a hazard
abbrev pub next_by_choice : Option Event → State → Result (Option Chosen) ℕ → Next
next_by_choice stands s (Ok (Some c)) = next_by_interrupt s c (interrupt_in s c)
next_by_choice stands s (Ok None) = next_by_event stands s
next_by_choice stands s (Err a) = Ends (finish (Hazard a))

-- what comes next in a state, at a length, where this event stands: what is due, the end of the length, the entry of an
-- interrupt, the event, or one instruction
abbrev pub next_in : ℕ → Due → Option Event → State → Next
next_in limit (dues.End f) stands s = Ends (finish f)
next_in limit (dues.Entry fault) stands s = next_by_entry s (entry_in s fault)
next_in limit dues.Nothing stands s = if s.count == limit then Ends (finish Limit) else next_by_choice stands s
    (choice_in s)

-- ---- runs of what is given

-- the state after the records
abbrev pub state_after : Given → List Record → State
state_after g [] = boot g.image
state_after g (r ∷ rs) = r.after

-- the events that a record reached, each at its count
abbrev pub reached_by : Kind → State → List Timed
reached_by (Instruction i) s = []
reached_by (Faulted inst fault) s = []
reached_by (Entered e) s = []
reached_by (Interrupted c e) s = []
reached_by (Reached e u) s = timed_at s.count e ∷ []

-- the events that the records reached, the first one first
abbrev pub reached_after : List Record → List Timed
reached_after [] = []
reached_after (r ∷ rs) = reached_after rs ++ reached_by r.kind r.before

-- the event that was reached with an end at a count, where one was
abbrev pub reached_last : ℕ → Option Event → List Timed
reached_last k None = []
reached_last k (Some e) = timed_at k e ∷ []

-- the events that a whole run reached
abbrev pub reached_in : Given → List Record → Finish → List Timed
reached_in g rs f = reached_after rs ++ reached_last (state_after g rs).count f.event

-- The event that stands there: the first one of the plan that was not reached, once its count has come. One machine
-- that does one thing after the other knows no turns, so no event that waits for a turn stands anywhere for it.
abbrev pub event_after : Given → List Record → Option Event
event_after g rs = standing g.plan (length (reached_after rs)) (state_after g rs).count

-- what comes after the records where this event stands, or none
abbrev pub next_with : Given → Option Event → List Record → Next
next_with g stands rs = next_in g.length (due_after rs) stands (state_after g rs)

-- what comes after the records
abbrev pub next : Given → List Record → Next
next g rs = next_with g (event_after g rs) rs

-- each of these records is what comes after those before it
abbrev pub IsPastOf : (List Record → Next) → List Record → Type 0
IsPastOf comes [] = Unit {0}
IsPastOf comes (r ∷ rs) = IsPastOf comes rs × (comes rs ≡ Does r)

-- these are the first records of the run
abbrev pub IsPast : Given → List Record → Type 0
IsPast g rs = IsPastOf (next g) rs

-- each of these records comes with some event or with none, whatever let that stand there
abbrev pub IsPastOfSome : (Option Event → List Record → Next) → List Record → Type 0
IsPastOfSome comes [] = Unit {0}
IsPastOfSome comes (r ∷ rs) = IsPastOfSome comes rs × ((o : Option Event) × (comes o rs ≡ Does r))

-- these are the records of the run, and this is its end
pub record IsRun (g : Given) (rs : List Record) (f : Finish) : Type 0 where
  pub past : IsPast g rs
  pub ends : next g rs ≡ Ends f
