-- An arithmetic fault whose entry is due while something is open, and the instruction behind it.
use Rattle.std.specs.Prelude.{◌≡◌, ℕ, ◌==◌, nat_lt, if◌then◌else◌, List, Option, Some, None}
use Rattle.i9_model.specs.declared.faults.TheConstants.{ARITHMETIC}
use Rattle.i9_model.specs.declared.run.Due.{Due}
use Rattle.i9_model.specs.declared.run.Due.TheVariants as dues
use Rattle.i9_model.specs.Run.{Given, state_after}
use Rattle.i9_course.specs.Course.{Item, records_of, instruction_ahead, issue_of_next}
use Rattle.i9_pipeline.specs.Paced.{IsPaced}
use Rattle.i9_machine.specs.Contents.{Situation, Contents}
use Rattle.i9_machine.specs.StandsFor.{Stand}

-- the address of the instruction that raised an arithmetic fault whose entry is due
abbrev pub late_entry : Due → Option ℕ
late_entry (dues.Entry fault) = if fault.kind == ARITHMETIC then Some fault.address else None
late_entry _ = None

-- the same within the length, where the fault may be imprecise
abbrev pub late_due : Situation → Option ℕ
late_due at = if nat_lt at.state.count at.length then late_entry at.due else None

-- turns are small enough for the scoreboard, whatever is left of the run
abbrev pub HasPace : Contents → Type 0
HasPace k = (left : ℕ) × IsPaced k.pipeline left

-- the turn at which the instruction at the instruction address would issue, as if no entry and no event stood before it
abbrev pub IssuesAhead : Contents → ℕ → Type 0
IssuesAhead k t =
    (g : Given) (h : List Item) → Stand g h None k
    → t ≡ issue_of_next g h (instruction_ahead (state_after g (records_of h)))
