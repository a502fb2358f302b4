-- What the reader of a text answers.
use Rattle.std.specs.Prelude.{ℕ, List, Result}
use Rattle.i9_schedule.specs.Reading.{Reads}
use Rattle.i9_schedule.specs.declared.error.LineError.{LineError}
use Rattle.i9_schedule.specs.declared.command.Command.{Command}

-- the result is these commands or this fault, or want of memory
abbrev pub Answers : Result (List Command) LineError → Result (List Command) (ℕ × ℕ) → Type 0
Answers result answer = Reads (λ cs. cs) result answer
