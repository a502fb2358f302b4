-- One step of a machine from what it contains, with no word on the records before.
use Rattle.std.specs.Prelude.{◌≡◌, ℕ, ◌+◌, ◌-◌, ◌*◌, ◌^◌, ◌<◌, ◌≤◌, Bool, true, false, ◌||◌, nat_lt, List, length, drop}
use Rattle.std.specs.Prelude.{Option, Some, None, is_some, Result, Ok, Err, vec_len, vec_capacity}
use Rattle.std.specs.Global.{Vec}
use Rattle.i9_isa.specs.Words.{words_of}
use Rattle.i9_model.specs.State.{State}
use Rattle.i9_model.specs.declared.event.Event.{Event}
use Rattle.i9_model.specs.ScheduleText.{standing_by}
use Rattle.i9_model.specs.Left.{left_in}
use Rattle.i9_model.specs.HeldFrames.{renewed, cache_acted, cache_configured}
use Rattle.i9_model.specs.Run.{Kind, Instruction, Faulted, Entered, Interrupted, Reached, Record, Next, Does, Ends}
use Rattle.i9_model.specs.Run.{next_in, due_by, faulted_words, action_by_kind, counts_of, point_of, record_of}
use Rattle.i9_model.specs.Run.{reached_by, action_done, Finish, reached_last}
use Rattle.i9_schedule.specs.Plan.{Plan}
use Rattle.i9_model.specs.Alike.{AreAlike}
use Rattle.i9_model.specs.PrintedText.{record_lines, end_lines, journal_lines}
use Rattle.i9_processor.specs.declared.effect.Effect.{Effect}
use Rattle.i9_processor.specs.declared.processor.Processor.{Processor}
use Rattle.i9_processor.specs.Effect.{IsEffect, HasRoomFor, has_writes, is_restart}
use Rattle.i9_model.specs.declared.run.End.{End}
use Rattle.i9_model.specs.declared.run.End.TheVariants.{Hazard}
use Rattle.i9_machine.specs.declared.line.Line.{Line}
use Rattle.i9_machine.specs.declared.line.Turn.{Turn}
use Rattle.i9_machine.specs.declared.line.Turn.TheVariants as turns
use Rattle.i9_machine.specs.declared.machine.Machine.{Machine}
use Rattle.i9_machine.specs.declared.step.Step.{Step}
use Rattle.i9_machine.specs.declared.step.Ending.{Ending}
use Rattle.i9_machine.specs.declared.step.Ending.TheVariants as endings
use Rattle.i9_machine.specs.Issue.{TellsIssue}
use Rattle.i9_machine.specs.Doing.{event_in, next_event}
use Rattle.i9_model.specs.declared.need.Need.{Need}
use Rattle.i9_model.specs.Turns.{issue_turn, waiting_until}
use Rattle.i9_course.specs.NeedOf.{need_of, need_ahead}
use Rattle.i9_course.specs.Course.{instruction_ahead}
use Rattle.i9_plan.specs.Planned.{IsInRow}
use Rattle.i9_machine.specs.Contents.{Situation, situation, situation_in, Contents, contents_of}
use Rattle.i9_pipeline.specs.Issuing.{most_turns, IsIssued}
use Rattle.i9_machine.specs.Line.{AddsLines}
use Rattle.i9_machine.specs.NewPages.{AddsNextOnly}
use Rattle.i9_machine.specs.Progress.{Progress, progress}

-- what the instruction at the instruction address would need, and the turn at which it would issue by the scoreboard,
-- if nothing came before it
abbrev pub need_at : Situation → Need
need_at at = need_ahead (Some at.size) at.cache (instruction_ahead at.state)

abbrev pub turn_at : Situation → ℕ
turn_at at = issue_turn at.board.last at.board.records (waiting_until at.floor (need_at at))

-- the event of a schedule that stands there
abbrev pub event_for : Situation → Plan → Option Event
event_for at plan = standing_by plan.events plan.place at.state.count (turn_at at)

-- what comes next where this event stands, or none
abbrev pub next_where : Situation → Option Event → Next
next_where at stands = next_in at.length at.due stands at.state

-- what comes next, by a schedule
abbrev pub next_for : Situation → Plan → Next
next_for at plan = next_where at (event_for at plan)

-- how much is left of a run
abbrev pub records_left : Situation → Plan → ℕ
records_left at plan = left_in at.length (drop plan.place plan.events) at.due at.state

-- the same with the turns, of which there are fewer than 2^62
unfoldable pub left_from : Contents → Plan → ℕ
left_from k plan = 2 ^ 62 * records_left (situation_in k) plan + (2 ^ 62 - k.pipeline.turn)

-- for a machine
abbrev pub steps_left : Machine → Plan → ℕ
steps_left m plan = left_from (contents_of m) plan

-- ---- how far a machine has come

-- what a machine contains, its processor, the schedule that it follows, the lines so far, and room for this many more
pub record Stage : Type 0 where
  pub contents : Contents
  pub processor : Processor
  pub plan : Plan
  pub lines : List Line
  pub spare : ℕ

abbrev pub stage_of : Progress → ℕ → Stage
stage_of p spare = record {
  contents = contents_of p.machine;
  processor = p.machine.pipeline.processor;
  plan = p.plan;
  lines = p.lines;
  spare = spare;
}

abbrev pub stage : Machine → Plan → Vec Line → Stage
stage m plan out = stage_of (progress m plan out.items) (vec_capacity out - vec_len out)

-- what comes next, and how much is left
abbrev pub next_of : Stage → Next
next_of s = next_for (situation_in s.contents) s.plan

abbrev pub left_of : Stage → ℕ
left_of s = left_from s.contents s.plan

-- ---- a record

-- the event that a record reached, where it reached one
abbrev pub event_of : Kind → Option Event
event_of (Instruction i) = None
event_of (Faulted inst fault) = None
event_of (Entered e) = None
event_of (Interrupted c e) = None
event_of (Reached e u) = Some e

-- an instruction is told, also where it faulted; an entry and an event are none
abbrev pub TellsRecord : Kind → State → Turn → Type 0
TellsRecord (Instruction i) s (turns.Issued t) = TellsIssue (words_of i) s t
TellsRecord (Faulted inst fault) s (turns.Issued t) = TellsIssue (faulted_words inst) s t
TellsRecord (Entered e) s turns.On = Unit {0}
TellsRecord (Interrupted c e) s turns.On = Unit {0}
TellsRecord (Reached e u) s turns.On = Unit {0}
TellsRecord _ s _ = ⊥

-- memory may be needed for a record that prints lines, stores bytes, saves a frame, or makes new sets
abbrev pub needs_room : Record → Bool
needs_room r = nat_lt 0 (length (record_lines r)) || (has_writes (action_done r) || is_restart (action_done r).control)

-- and to print an end
abbrev pub NeedsRoom : Next → Type 0
NeedsRoom (Ends f) = Unit {0}
NeedsRoom (Does r) = needs_room r ≡ true

-- There is room to do a record, with this many lines to spare: for its lines, and for what it stores and saves; and no
-- new sets are made.
pub record HasRoomToDo (p : Processor) (spare : ℕ) (r : Record) : Type 0 where
  pub lines : length (record_lines r) ≤ spare
  pub effect : HasRoomFor p (action_done r)
  pub no_sets : is_restart (action_done r).control ≡ false

-- there is room for what comes next: an end has two lines, behind that of an event that is reached with it
abbrev pub HasRoom : Processor → ℕ → Next → Type 0
HasRoom p spare (Ends f) = length (journal_lines 0 f.event) + 2 ≤ spare
HasRoom p spare (Does r) = HasRoomToDo p spare r

-- ---- what a step is to do

-- What comes next, where this event stands or none, is a record of this effect, drained point and count, which reaches
-- the next event of a schedule or none, makes this due, is answered so, and needs this. The bytes of a request stand in
-- a row.
pub record IsStepIn (at : Situation) (stands : Option Event) (plan : Plan) (step : Step) (need : Need) (e : Effect)
    : Type 0 where
  pub kind : Kind
  pub is_next : next_in at.length at.due stands at.state ≡ Does (record_of kind at.state)
  pub effect : IsEffect at.state (action_by_kind kind at.state) e
  pub point : step.point ≡ point_of kind
  pub counts : step.counts ≡ counts_of kind
  pub due : step.due ≡ due_by kind at.state
  pub reaches : step.reaches ≡ is_some (event_of kind)
  pub event : event_in plan step ≡ event_of kind
  pub tells : TellsRecord kind at.state step.answer
  pub is_need : need ≡ need_of at.size at.cache at.state kind
  pub cost : need.cost ≤ most_turns
  pub row : need.request ≡ true → IsInRow e

-- where the event of the schedule stands, whose time has come
abbrev pub IsStep : Situation → Plan → Step → Need → Effect → Type 0
IsStep at plan step need e = IsStepIn at (event_for at plan) plan step need e

-- what comes next in a situation is this step, whose effect a machine has, with its need behind the last fence
pub record IsPlannedIn (at : Situation) (plan : Plan) (step : Step) (m : Machine) : Type 0 where
  pub need : Need
  pub fenced : m.need ≡ waiting_until at.floor need
  pub is : IsStep at plan step need m.effect

-- the machine itself has them
abbrev pub IsPlanned : Machine → Plan → Step → Type 0
IsPlanned m plan step = IsPlannedIn (situation m) plan step m

-- how a run ends, by what the machine answers: an event that is reached is the next one of the schedule
abbrev pub reaches_event : Ending → Bool
reaches_event (endings.Alone e) = false
reaches_event (endings.AtEvent a) = true

abbrev pub end_in : Ending → End
end_in (endings.Alone e) = e
end_in (endings.AtEvent a) = Hazard a

abbrev pub finish_in : Plan → Ending → Finish
finish_in plan f = record { event = next_event plan (reaches_event f); end = end_in f }

-- what comes next is such a step, or this end
abbrev pub IsNext : Situation → Plan → Result Step Ending → Machine → Type 0
IsNext at plan (Ok step) m = IsPlannedIn at plan step m
IsNext at plan (Err f) m = next_for at plan ≡ Ends (finish_in plan f)

-- ---- what it has done

-- a schedule goes on behind the event that a record reached
abbrev pub plan_behind : Plan → Record → Plan
plan_behind plan r = record plan { place = plan.place + length (reached_by r.kind r.before) }

-- what a record of this kind needs there
abbrev pub need_in : Situation → Kind → Need
need_in at kind = need_of at.size at.cache at.state kind

-- A record was done and issued: the state behind it, with its frames, sets and what is due, is that of the record.
pub record Did (before : Stage) (answer : Turn) (after : Stage) : Type 0 where
  pub done : Record
  pub is_next : next_of before ≡ Does done
  pub need : Need
  pub is_need : need ≡ need_in (situation_in before.contents) done.kind
  pub issued : IsIssued before.contents.pipeline need (action_done done) after.contents.pipeline
  pub rest : after.contents ≡ record (before.contents)
      { pipeline = after.contents.pipeline; due = after.contents.due }
  pub state : AreAlike done.after after.contents.pipeline.state
  pub cache : after.contents.pipeline.cache ≡ cache_configured after.contents.pipeline.state.memory
      (cache_acted before.contents.pipeline.size (action_done done) before.contents.pipeline.cache)
  pub size : after.contents.pipeline.size ≡ renewed before.contents.sets before.contents.pipeline.state.memory
      (action_done done).control before.contents.pipeline.size
  pub due : after.contents.due ≡ due_by done.kind done.before
  pub behind : after.plan ≡ plan_behind before.plan done
  pub lines : AddsLines before.lines after.lines (record_lines done)
  pub tells : TellsRecord done.kind done.before answer

-- a schedule goes on behind the event that was reached with an end
abbrev pub plan_at_end : Plan → Finish → Plan
plan_at_end plan f = record plan { place = plan.place + length (reached_last 0 f.event) }

-- an end was answered, and nothing else changed
pub record Finished (before : Stage) (f : Finish) (after : Stage) : Type 0 where
  pub contents : after.contents ≡ record (before.contents) { ended = Some f.end }
  pub behind : after.plan ≡ plan_at_end before.plan f
  pub lines : AddsLines before.lines after.lines (end_lines before.contents.pipeline.state f)

-- or there was no room for its lines, and nothing changed
pub record Unfinished (before : Stage) (f : Finish) (after : Stage) : Type 0 where
  pub same : after ≡ before
  pub lacking : before.spare < length (end_lines before.contents.pipeline.state f)

abbrev pub Finishes : Stage → Finish → Turn → Stage → Type 0
Finishes before f (turns.End e) after = (f.end ≡ e) × Finished before f after
Finishes before f turns.Memory after = Unfinished before f after
Finishes before f turns.On after = ⊥
Finishes before f (turns.Issued t) after = ⊥

-- the end that comes next was answered
pub record Ended (before : Stage) (e : End) (after : Stage) : Type 0 where
  pub finish : Finish
  pub answers : finish.end ≡ e
  pub is_end : next_of before ≡ Ends finish
  pub finished : Finished before finish after

-- memory was refused for what comes next, and nothing changed but room
pub record Refused (before after : Stage) : Type 0 where
  pub same : after ≡ record before { processor = after.processor; spare = after.spare }
  pub needed : NeedsRoom (next_of before)

-- one of these, by the answer of a step
abbrev pub Steps : Stage → Turn → Stage → Type 0
Steps before turns.On after = Did before turns.On after
Steps before (turns.Issued t) after = Did before (turns.Issued t) after
Steps before (turns.End e) after = Ended before e after
Steps before turns.Memory after = Refused before after

-- a record, or a move of the turn, leaves less
abbrev pub LeavesFewer : Turn → ℕ → ℕ → Type 0
LeavesFewer turns.On before now = now < before
LeavesFewer (turns.Issued t) before now = now < before
LeavesFewer (turns.End e) before now = Unit {0}
LeavesFewer turns.Memory before now = Unit {0}

-- What a step costs: memory is refused only where room was lacking, and is lacking still; a page that is new is one of
-- what came next; and less is left.
pub record Costs (before : Stage) (answer : Turn) (after : Stage) : Type 0 where
  pub lacking : answer ≡ turns.Memory → HasRoom before.processor before.spare (next_of before) → ⊥
  pub still_lacking : answer ≡ turns.Memory → HasRoom after.processor after.spare (next_of after) → ⊥
  pub only : AddsNextOnly before.processor after.processor (next_of before)
  pub fewer : LeavesFewer answer (left_of before) (left_of after)
