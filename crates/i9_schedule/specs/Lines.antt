-- What a word says as a time; and what was said after a line, as a function of what was said before it, which counts
-- only where the line has no fault.
use Rattle.std.specs.Prelude.{ℕ, List, Option, Some, Result, Ok, Err}
use Rattle.i9_model.specs.ScheduleText.{SoFar, with_event, count_time, turn_time, line_of}
use Rattle.i9_model.specs.declared.event.When.{When}
use Rattle.i9_model.specs.declared.event.Said.{Said}
use Rattle.i9_model.specs.declared.event.Said.TheVariants as said
use Rattle.i9_schedule.specs.declared.parsing.Clock.{Clock}
use Rattle.i9_schedule.specs.declared.parsing.Clock.TheVariants.{Instructions, Turns}

abbrev pub time_by : Clock → List ℕ → Option When
time_by Instructions word = count_time word
time_by Turns word = turn_time word

abbrev pub with_said : SoFar → Result Said ℕ → SoFar
with_said s (Err kind) = s
with_said s (Ok said.Nothing) = s
with_said s (Ok (said.Version version)) = record s { version = Some version }
with_said s (Ok (said.Event t)) = with_event s t

abbrev pub with_line : SoFar → List ℕ → SoFar
with_line s line = with_said s (line_of s.version line)
