-- What comes next of a machine, and the turn at which it does.
use Rattle.std.specs.Prelude.{◌≡◌, ℕ, ◌≤◌, max, true, List, Option, Some, None}
use Rattle.i9_isa.specs.declared.inst.Inst.{Inst}
use Rattle.i9_isa.specs.Words.{words_of}
use Rattle.i9_model.specs.declared.run.End.TheVariants.{Imprecise}
use Rattle.i9_model.specs.State.{State}
use Rattle.i9_model.specs.Run.{Given, Kind, Instruction, Faulted, Does, fault_at, record_of, finish}
use Rattle.i9_model.specs.Traced.{traced_action}
use Rattle.i9_model.specs.Turns.{IssuesAt}
use Rattle.i9_schedule.specs.Plan.{Plan}
use Rattle.i9_course.specs.Course.{Item, ahead}
use Rattle.i9_plan.specs.Kept.{inst_in, words_in}
use Rattle.i9_plan.specs.Planned.{TellsWords, IsRead, AreRequestsInRow}
use Rattle.i9_processor.specs.Effect.{IsEffect}
use Rattle.i9_machine.specs.declared.line.Turn.{Turn}
use Rattle.i9_machine.specs.declared.line.Turn.TheVariants as turns
use Rattle.i9_machine.specs.declared.step.Coming.{Coming}
use Rattle.i9_machine.specs.declared.step.Coming.TheVariants.{Waiting, Overtaking, Running, Faulting}
use Rattle.i9_machine.specs.Contents.{Outlook, Contents}
use Rattle.i9_pipeline.specs.Flow.{IsEndTurn}
use Rattle.i9_machine.specs.Opening.{IsFreeToIssue, HasNeed}
use Rattle.i9_machine.specs.Overtaking.{late_due}
use Rattle.i9_machine.specs.Step.{event_for, next_where, Stage, Finished, Refused, Steps}
use Rattle.i9_machine.specs.StandsFor.{Stand, Follows}

-- ---- when it comes

-- the fault that is imprecise where this comes next
abbrev pub overtaken_by : Coming → Option ℕ
overtaken_by (Waiting read) = None
overtaken_by (Overtaking a) = Some a
overtaken_by Running = None
overtaken_by (Faulting number) = None

-- what comes next in a run comes at this turn, or now where that is past
pub record ArrivesAt (g : Given) (h : List Item) (now t : ℕ) (coming : Coming) : Type 0 where
  pub turn : (ahead g h).turn ≡ max now t
  pub imprecise : (ahead g h).imprecise ≡ overtaken_by coming

-- whatever contents stand for
abbrev pub Arrives : Contents → Plan → ℕ → Coming → Type 0
Arrives k plan t coming = (g : Given) (h : List Item) → Stand g h None k → Follows g h plan
    → ArrivesAt g h k.pipeline.turn t coming

-- contents stand for the first items of some run, a schedule follows them, and the turn of what comes next has come
pub record HasArrived (k : Contents) (plan : Plan) (coming : Coming) : Type 0 where
  pub given : Given
  pub items : List Item
  pub stands : Stand given items None k
  pub follows : Follows given items plan
  pub imprecise : (ahead given items).imprecise ≡ overtaken_by coming
  pub now : (ahead given items).turn ≤ k.pipeline.turn

-- ---- what a machine has of it

-- An instruction is what comes next, as a record of this kind, and no event stands before it. Its need is kept, by
-- which it issues at this turn.
pub record IsAhead (o : Outlook) (plan : Plan) (t : ℕ) (kind : Kind) : Type 0 where
  pub free : IsFreeToIssue o.at
  pub none : event_for o.at plan ≡ None
  pub is_next : next_where o.at None ≡ Does (record_of kind o.at.state)
  pub told : TellsWords (words_of (inst_in o.decodes)) o.at.state (words_in o.decodes)
  pub kept : HasNeed o.at kind o.need
  pub issues : IssuesAt o.at.board.last o.at.board.records o.need t

-- it runs, and its effect is planned
pub record RunsAhead (o : Outlook) (plan : Plan) (t : ℕ) : Type 0 where
  pub ahead : IsAhead o plan t (Instruction (inst_in o.decodes))
  pub effect : IsEffect o.at.state (traced_action (inst_in o.decodes) o.at.state) o.effect
  pub row : AreRequestsInRow (inst_in o.decodes) o.effect

-- the instruction at the instruction address was read into the decode cache, and nothing comes before it but an event
pub record HasRead (o : Outlook) : Type 0 where
  pub free : IsFreeToIssue o.at
  pub read : IsRead o.at.state o.decodes

-- what is known where this comes next at a turn
abbrev pub IsReadyFor : Outlook → Plan → ℕ → Coming → Type 0
IsReadyFor o plan t (Waiting read) = IsEndTurn o.at.board t × (read ≡ true → HasRead o)
IsReadyFor o plan t (Overtaking a) = late_due o.at ≡ Some a
IsReadyFor o plan t Running = RunsAhead o plan t
IsReadyFor o plan t (Faulting number) =
    IsAhead o plan t (Faulted (Some (inst_in o.decodes)) (fault_at o.at.state number))

-- the kind of record that the instruction makes
abbrev pub kind_of : Inst → State → Coming → Option Kind
kind_of i s (Waiting read) = None
kind_of i s (Overtaking a) = None
kind_of i s Running = Some (Instruction i)
kind_of i s (Faulting number) = Some (Faulted (Some i) (fault_at s number))

-- the instruction comes next where no event stands, and its need is kept
pub record IsNextInstruction (o : Outlook) (coming : Coming) : Type 0 where
  pub kind : Kind
  pub same : kind_of (inst_in o.decodes) o.at.state coming ≡ Some kind
  pub free : IsFreeToIssue o.at
  pub is_next : next_where o.at None ≡ Does (record_of kind o.at.state)
  pub kept : HasNeed o.at kind o.need

-- ---- what it has done

-- an arithmetic fault at this address was overtaken, which ended the run, or there was no room for its line
abbrev pub Overtakes : ℕ → Stage → Turn → Stage → Type 0
Overtakes a before (turns.End e) after = (e ≡ Imprecise a) × Finished before (finish e) after
Overtakes a before turns.Memory after = Refused before after
Overtakes a before _ after = ⊥

-- what came next was done
abbrev pub Came : Coming → Stage → Turn → Stage → Type 0
Came (Overtaking a) before answer after = Overtakes a before answer after
Came _ before answer after = Steps before answer after
