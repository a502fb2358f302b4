-- What a whole turn of a machine does.
use Rattle.std.specs.Prelude.{◌≡◌, ◌+◌, ◌<◌, ◌≤◌, List, [], ◌∷◌, ◌++◌, None, Some}
use Rattle.i9_model.specs.declared.run.End.{End}
use Rattle.i9_model.specs.Late.{turns}
use Rattle.i9_model.specs.PrintedText.{lines_of, end_lines}
use Rattle.i9_model.specs.Run.{Given, Record, state_after, Finish}
use Rattle.i9_model.specs.Turns.{last_issue}
use Rattle.i9_course.specs.Course.{Item, Step, records_of, course, comes_next, ahead}
use Rattle.i9_course.specs.PipelinedRun.{end_ahead}
use Rattle.i9_machine.specs.declared.line.Turn.{Turn}
use Rattle.i9_machine.specs.declared.line.Turn.TheVariants as answers
use Rattle.i9_machine.specs.Line.{AddsLines}
use Rattle.i9_machine.specs.NewPages.{AddsRecordsOnly, with_next}
use Rattle.i9_machine.specs.Progress.{Progress}
use Rattle.i9_machine.specs.Step.{NeedsRoom}
use Rattle.i9_machine.specs.StandsFor.{StandsFor, Follows, FollowsTo}

-- items with records behind them, the newest first
abbrev pub steps_on : List Record → List Item → List Item
steps_on [] h = h
steps_on (r ∷ rs) h = Step r ∷ steps_on rs h

-- records were done at the machine's turn, and their lines were appended
pub record Since (g : Given) (h : List Item) (before after : Progress) : Type 0 where
  pub done : List Record
  pub turn : after.machine.pipeline.turn ≡ before.machine.pipeline.turn
  pub stands : StandsFor g (steps_on done h) None after.machine
  pub follows : Follows g (steps_on done h) after.plan
  pub lines : AddsLines before.lines after.lines (lines_of done)

-- All records of the run that issue below the new turn have issued, and no others. Here and below a page that is new
-- is one of what was done, or of what comes next.
pub record TurnsOn (g : Given) (h : List Item) (before after : Progress) : Type 0 where
  pub done : List Record
  pub turn : after.machine.pipeline.turn ≡ before.machine.pipeline.turn + 1
  pub issued : last_issue (turns (course g (steps_on done h)).late) < after.machine.pipeline.turn
  pub later : after.machine.pipeline.turn ≤ (ahead g (steps_on done h)).turn
  pub stands : StandsFor g (steps_on done h) None after.machine
  pub follows : Follows g (steps_on done h) after.plan
  pub lines : AddsLines before.lines after.lines (lines_of done)
  pub pages : AddsRecordsOnly before.machine.pipeline.processor after.machine.pipeline.processor
      (with_next (comes_next g (steps_on done h)) done)

-- the end was answered, at the machine's turn
pub record EndsTurn (g : Given) (h : List Item) (e : End) (before after : Progress) : Type 0 where
  pub done : List Record
  pub finish : Finish
  pub answers : finish.end ≡ e
  pub turn : after.machine.pipeline.turn ≡ before.machine.pipeline.turn
  pub is_end : end_ahead g (steps_on done h) ≡ Some finish
  pub now : (ahead g (steps_on done h)).turn ≡ before.machine.pipeline.turn
  pub stands : StandsFor g (steps_on done h) (Some finish) after.machine
  pub follows : FollowsTo g (steps_on done h) finish after.plan
  pub lines : AddsLines before.lines after.lines
      (lines_of done ++ end_lines (state_after g (records_of (steps_on done h))) finish)
  pub pages : AddsRecordsOnly before.machine.pipeline.processor after.machine.pipeline.processor
      (with_next (comes_next g (steps_on done h)) done)

-- memory was refused behind whole steps
pub record StopsTurn (g : Given) (h : List Item) (before after : Progress) : Type 0 where
  pub since : Since g h before after
  pub needed : NeedsRoom (comes_next g (steps_on since.done h))
  pub pages : AddsRecordsOnly before.machine.pipeline.processor after.machine.pipeline.processor
      (with_next (comes_next g (steps_on since.done h)) since.done)

-- what a turn does, by its answer, which is no instruction
abbrev pub Turns : Given → List Item → Turn → Progress → Progress → Type 0
Turns g h answers.On before after = TurnsOn g h before after
Turns g h (answers.Issued t) before after = ⊥
Turns g h (answers.End e) before after = EndsTurn g h e before after
Turns g h answers.Memory before after = StopsTurn g h before after
