-- What a machine stands for, and what one step of it does.
use Rattle.std.specs.Prelude.{◌≡◌, ◌⊎◌, ℕ, ◌+◌, ◌<◌, ◌≤◌, max, List, ◌∷◌, length, drop, Option, Some, None, IfSome}
use Rattle.i9_model.specs.declared.run.End.{End}
use Rattle.i9_model.specs.Left.{left_in}
use Rattle.i9_model.specs.Run.{Given, Record, Does, due_after, reached_after, state_after, Finish, reached_in}
use Rattle.i9_schedule.specs.Plan.{Plan}
use Rattle.i9_model.specs.PrintedText.{record_lines, end_lines}
use Rattle.i9_course.specs.Course.{Item, Step, records_of, comes_next, ahead, IsCourse}
use Rattle.i9_course.specs.PipelinedRun.{end_ahead}
use Rattle.i9_pipeline.specs.InRun.{IsFlowOf}
use Rattle.i9_pipeline.specs.Paced.{IsPaced}
use Rattle.i9_machine.specs.declared.line.Line.{Line}
use Rattle.i9_machine.specs.declared.line.Turn.{Turn}
use Rattle.i9_machine.specs.declared.line.Turn.TheVariants as turns
use Rattle.i9_machine.specs.declared.machine.Machine.{Machine}
use Rattle.i9_machine.specs.Contents.{Contents, contents_of}
use Rattle.i9_machine.specs.Line.{AddsLines}
use Rattle.i9_machine.specs.Progress.{Progress}
use Rattle.i9_machine.specs.Step.{TellsRecord, NeedsRoom, HasRoom}
use Rattle.std.specs.Option.{option_map}

-- the run is over with this end, where there is one
abbrev pub IsOver : Given → List Item → Option Finish → Type 0
IsOver g h None = Unit {0}
IsOver g h (Some f) = end_ahead g h ≡ Some f

-- how much is left of a run after records
abbrev pub left_after : Given → List Record → ℕ
left_after g rs = left_in g.length (drop (length (reached_after rs)) g.plan) (due_after rs) (state_after g rs)

-- a schedule is the plan of the run, and stands behind the events that the records reached
pub record Follows (g : Given) (h : List Item) (plan : Plan) : Type 0 where
  pub events : plan.events ≡ g.plan
  pub place : plan.place ≡ length (reached_after (records_of h))

-- a schedule stands behind the events that the run reached up to its end, the one that was reached with it too
pub record FollowsTo (g : Given) (h : List Item) (f : Finish) (plan : Plan) : Type 0 where
  pub events : plan.events ≡ g.plan
  pub place : plan.place ≡ length (reached_in g (records_of h) f)

-- a schedule follows the items, as long as no end was answered
abbrev pub FollowsUntil : Given → List Item → Option Finish → Plan → Type 0
FollowsUntil g h None plan = Follows g h plan
FollowsUntil g h (Some f) plan = Unit {0}

-- as long as no end was answered, a turn is at most that of what lies ahead
abbrev pub IsInTime : Given → List Item → Option Finish → ℕ → Type 0
IsInTime g h None t = t ≤ (ahead g h).turn
IsInTime g h (Some f) t = Unit {0}

-- Contents stand for the first items of the run of what is given, its records and the fences between them, with this
-- end of it answered, if any: the pipeline's flow is that of the items; as long as no end was answered, neither its
-- turn nor the one that is waited for is above that of what lies ahead; and turns stay small, whatever is left.
pub record Stand (g : Given) (h : List Item) (end : Option Finish) (k : Contents) : Type 0 where
  pub past : IsCourse g h
  pub flow : IsFlowOf g h k.pipeline
  pub in_time : IsInTime g h end k.pipeline.turn
  pub early : IsInTime g h end k.wait
  pub paced : IsPaced k.pipeline (left_after g (records_of h))
  pub due : k.due ≡ due_after (records_of h)
  pub length : k.length ≡ g.length
  pub sets : k.sets ≡ g.sets
  pub ended : k.ended ≡ option_map (λ f. f.end) end
  pub over : IsOver g h end

-- those of a machine do
abbrev pub StandsFor : Given → List Item → Option Finish → Machine → Type 0
StandsFor g h end m = Stand g h end (contents_of m)

-- a machine that has answered no end stands for the first items of some run, and a schedule follows them
pub record IsUnderWay (m : Machine) (plan : Plan) : Type 0 where
  pub given : Given
  pub items : List Item
  pub stands : StandsFor given items None m
  pub follows : Follows given items plan

-- the same of contents, where no fault is imprecise, and the turn of what comes next has come
pub record HasCome (k : Contents) (plan : Plan) : Type 0 where
  pub given : Given
  pub items : List Item
  pub stands : Stand given items None k
  pub follows : Follows given items plan
  pub precise : (ahead given items).imprecise ≡ None
  pub now : (ahead given items).turn ≤ k.pipeline.turn

-- the turn moves by one, and is not above that of what lies ahead
pub record MovesOn (g : Given) (h : List Item) (before after : Progress) : Type 0 where
  pub early : before.machine.pipeline.turn < (ahead g h).turn
  pub turn : after.machine.pipeline.turn ≡ before.machine.pipeline.turn + 1
  pub stands : StandsFor g h None after.machine
  pub follows : Follows g h after.plan
  pub lines : after.lines ≡ before.lines

-- the next record was done, whose turn has come, and its lines were appended
pub record DoesNext (g : Given) (h : List Item) (answer : Turn) (before after : Progress) : Type 0 where
  pub done : Record
  pub is_next : comes_next g h ≡ Does done
  pub now : (ahead g h).turn ≡ before.machine.pipeline.turn
  pub turn : after.machine.pipeline.turn ≡ before.machine.pipeline.turn
  pub stands : StandsFor g (Step done ∷ h) None after.machine
  pub follows : Follows g (Step done ∷ h) after.plan
  pub lines : AddsLines before.lines after.lines (record_lines done)
  pub tells : TellsRecord done.kind done.before answer

-- the end was answered, of the run or at an imprecise fault, whose turn has come, and its lines were appended, behind
-- that of an event that was reached with it
pub record EndsRun (g : Given) (h : List Item) (e : End) (before after : Progress) : Type 0 where
  pub finish : Finish
  pub answers : finish.end ≡ e
  pub is_end : end_ahead g h ≡ Some finish
  pub now : (ahead g h).turn ≡ before.machine.pipeline.turn
  pub turn : after.machine.pipeline.turn ≡ before.machine.pipeline.turn
  pub stands : StandsFor g h (Some finish) after.machine
  pub follows : FollowsTo g h finish after.plan
  pub lines : AddsLines before.lines after.lines (end_lines (state_after g (records_of h)) finish)

-- memory was refused, when the turn of what lies ahead had come, and nothing has changed
pub record IsRefused (g : Given) (h : List Item) (before after : Progress) : Type 0 where
  pub now : (ahead g h).turn ≡ before.machine.pipeline.turn
  pub turn : after.machine.pipeline.turn ≡ before.machine.pipeline.turn
  pub stands : StandsFor g h None after.machine
  pub follows : Follows g h after.plan
  pub lines : after.lines ≡ before.lines
  pub needed : NeedsRoom (comes_next g h)

-- what comes next was done, or the end was answered, by the answer of a step
abbrev pub Comes : Given → List Item → Turn → Progress → Progress → Type 0
Comes g h turns.On before after = DoesNext g h turns.On before after
Comes g h (turns.Issued t) before after = DoesNext g h (turns.Issued t) before after
Comes g h (turns.End e) before after = EndsRun g h e before after
Comes g h turns.Memory before after = IsRefused g h before after

-- what a step does, by its answer: the turn may move in place of it
abbrev pub Advances : Given → List Item → Turn → Progress → Progress → Type 0
Advances g h turns.On before after = MovesOn g h before after ⊎ Comes g h turns.On before after
Advances g h answer before after = Comes g h answer before after

-- The turn moved to the one at which something comes, where the machine was below it, and then that was done. Memory is
-- refused only where room was lacking before, with this many lines to spare.
pub record Proceeds (g : Given) (h : List Item) (answer : Turn) (spare : ℕ) (before after : Progress) : Type 0 where
  pub mid : Machine
  pub now : (ahead g h).turn ≡ mid.pipeline.turn
  pub stands : StandsFor g h None mid
  pub comes : Comes g h answer (record before { machine = mid }) after
  pub lacking : answer ≡ turns.Memory → HasRoom before.machine.pipeline.processor spare (comes_next g h) → ⊥

-- Nothing comes below a turn, which the machine's became, unless that was above it; and nothing was done.
pub record PassesTo (g : Given) (h : List Item) (until : ℕ) (before after : Progress) : Type 0 where
  pub later : until ≤ (ahead g h).turn
  pub turn : after.machine.pipeline.turn ≡ max before.machine.pipeline.turn until
  pub stands : StandsFor g h None after.machine
  pub follows : Follows g h after.plan
  pub lines : after.lines ≡ before.lines

-- What comes next was done, and comes below a turn where one is given; or there was no answer, and nothing comes below
-- that.
abbrev pub ProceedsUntil : Given → List Item → Option ℕ → Option Turn → ℕ → Progress → Progress → Type 0
ProceedsUntil g h until (Some answer) spare before after =
    IfSome until (λ u. (ahead g h).turn < u) × Proceeds g h answer spare before after
ProceedsUntil g h (Some u) None spare before after = PassesTo g h u before after
ProceedsUntil g h None None spare before after = ⊥

-- the end is answered again, and nothing has changed
pub record AnswersAgain (f : Finish) (answer : Turn) (before m : Machine) (old new : List Line) : Type 0 where
  pub answers : answer ≡ turns.End f.end
  pub same : m ≡ before
  pub lines : new ≡ old
