-- What running a machine until a stop holds does.
use Rattle.std.specs.Prelude.{◌≡◌, Bool, true, false, List, ◌∷◌, ◌++◌, Some, None}
use Rattle.std.specs.List.{AllByRecursion}
use Rattle.i9_model.specs.declared.run.End.{End}
use Rattle.i9_model.specs.declared.view.View.{View}
use Rattle.i9_model.specs.PrintedText.{view_of, lines_of, end_lines}
use Rattle.i9_model.specs.Run.{Given, Record, counts_of, state_after, Finish}
use Rattle.i9_schedule.specs.Plan.{Plan}
use Rattle.i9_course.specs.Course.{Item, Step, records_of, comes_next, ahead}
use Rattle.i9_course.specs.PipelinedRun.{end_ahead}
use Rattle.i9_machine.specs.declared.line.Line.{Line}
use Rattle.i9_machine.specs.declared.line.Turn.{Turn}
use Rattle.i9_machine.specs.declared.line.Turn.TheVariants as answers
use Rattle.i9_machine.specs.declared.line.Issued.{Issued}
use Rattle.i9_machine.specs.declared.machine.Machine.{Machine}
use Rattle.i9_machine.specs.Line.{AddsLines}
use Rattle.i9_machine.specs.Step.{TellsRecord, NeedsRoom}
use Rattle.i9_machine.specs.StandsFor.{StandsFor, Follows, FollowsTo}
use Rattle.i9_machine.specs.Turned.{steps_on}

-- what the view shows behind a record
abbrev pub view_behind : Record → View
view_behind r = view_of r.after

-- a stop may answer false behind a record, where that is an instruction: what is none asks for no answer
abbrev pub IsPassed : (View → Bool → Type 0) → Record → Type 0
IsPassed allows r = counts_of r.kind ≡ 1 → allows (view_behind r) false

-- how far a run has come: what is given, and the items that were done
pub record History : Type 0 where
  pub given : Given
  pub items : List Item

abbrev pub history : Given → List Item → History
history g h = record { given = g; items = h }

-- Records were done behind items, the newest first, at none of which the stop held; and their lines were appended.
pub record Passes (allows : View → Bool → Type 0) (past : History) (m : Machine) (plan : Plan)
    (old new : List Line) : Type 0 where
  pub done : List Record
  pub passed : AllByRecursion (IsPassed allows) done
  pub stands : StandsFor past.given (steps_on done past.items) None m
  pub follows : Follows past.given (steps_on done past.items) plan
  pub lines : AddsLines old new (lines_of done)

-- The last record is an instruction, behind which the stop may answer true, and it was told; the turn is the one at
-- which it issued.
pub record StopsAt (allows : View → Bool → Type 0) (past : History) (t : Issued) (m : Machine) (plan : Plan)
    (old new : List Line) : Type 0 where
  pub done : List Record
  pub last : Record
  pub passed : AllByRecursion (IsPassed allows) done
  pub counts : counts_of last.kind ≡ 1
  pub held : allows (view_behind last) true
  pub tells : TellsRecord last.kind last.before (answers.Issued t)
  pub turn : m.pipeline.turn ≡ (ahead past.given (steps_on done past.items)).turn
  pub stands : StandsFor past.given (Step last ∷ steps_on done past.items) None m
  pub follows : Follows past.given (Step last ∷ steps_on done past.items) plan
  pub lines : AddsLines old new (lines_of (last ∷ done))

-- the end was answered, at its turn, and no instruction before it stopped
pub record EndsFirst (allows : View → Bool → Type 0) (past : History) (e : End) (m : Machine) (plan : Plan)
    (old new : List Line) : Type 0 where
  pub done : List Record
  pub finish : Finish
  pub answers : finish.end ≡ e
  pub passed : AllByRecursion (IsPassed allows) done
  pub is_end : end_ahead past.given (steps_on done past.items) ≡ Some finish
  pub turn : m.pipeline.turn ≡ (ahead past.given (steps_on done past.items)).turn
  pub stands : StandsFor past.given (steps_on done past.items) (Some finish) m
  pub follows : FollowsTo past.given (steps_on done past.items) finish plan
  pub lines : AddsLines old new
      (lines_of done ++ end_lines (state_after past.given (records_of (steps_on done past.items))) finish)

-- memory was refused behind whole steps
pub record StopsShort (allows : View → Bool → Type 0) (past : History) (m : Machine) (plan : Plan)
    (old new : List Line) : Type 0 where
  pub since : Passes allows past m plan old new
  pub needed : NeedsRoom (comes_next past.given (steps_on since.done past.items))

-- what running until a stop holds does, by its answer: an instruction where it held, an end, or want of memory
abbrev pub RunsUntil : (View → Bool → Type 0) → History → Turn → Machine → Plan → List Line → List Line → Type 0
RunsUntil allows past answers.On m plan old new = ⊥
RunsUntil allows past (answers.Issued t) m plan old new = StopsAt allows past t m plan old new
RunsUntil allows past (answers.End e) m plan old new = EndsFirst allows past e m plan old new
RunsUntil allows past answers.Memory m plan old new = StopsShort allows past m plan old new
