-- What the reader of a text answers.
use Rattle.std.specs.Prelude.{◌≡◌, ℕ, Option, Some, None, Result, Ok, Err}
use Rattle.i9_model.specs.ScheduleText as texts
use Rattle.i9_schedule.specs.declared.reading.SoFar.{SoFar}
use Rattle.i9_schedule.specs.declared.error.LineFault.{LineFault}
use Rattle.i9_schedule.specs.declared.error.LineError.{LineError}
use Rattle.i9_schedule.specs.declared.error.LineError.TheVariants as errors
use Rattle.i9_schedule.specs.declared.error.StepError.{StepError}
use Rattle.i9_schedule.specs.declared.error.StepError.TheVariants as steps

-- ---- a line

-- the error is this fault, or want of memory
abbrev pub Fails : StepError → Option ℕ → Type 0
Fails steps.Memory fault = Unit {0}
Fails (steps.Bad kind) fault = fault ≡ Some kind

-- what the lines so far said
abbrev pub said_by : SoFar → texts.SoFar
said_by s = record { version = s.version; events = s.events.items }

-- what was said is the wanted where there is no fault, else the error is the fault, or want of memory
abbrev pub Takes : Result SoFar StepError → Option ℕ → texts.SoFar → Type 0
Takes (Ok s) fault wanted = (fault ≡ None) × (said_by s ≡ wanted)
Takes (Err e) fault wanted = Fails e fault

-- the error of the text, for a line of this number
abbrev pub error_at : StepError → ℕ → LineError
error_at steps.Memory number = errors.Memory
error_at (steps.Bad k) number = errors.Bad (record { line = number; kind = k })

-- ---- a text

-- the line and kind of a fault
abbrev pub place_of : LineFault → ℕ × ℕ
place_of f = (f.line, f.kind)

-- the error is this fault, or want of memory
abbrev pub Refuses : {Y : Type 0} → LineError → Result Y (ℕ × ℕ) → Type 0
Refuses errors.Memory answer = Unit {0}
Refuses (errors.Bad f) answer = answer ≡ Err (place_of f)

-- the result, seen by the view, is this answer, or want of memory
abbrev pub Reads : {X Y : Type 0} → (X → Y) → Result X LineError → Result Y (ℕ × ℕ) → Type 0
Reads view (Ok x) answer = answer ≡ Ok (view x)
Reads view (Err e) answer = Refuses e answer

-- the fact holds of the fault, where the error is one
abbrev pub IfBad : LineError → (ℕ × ℕ → Type 0) → Type 0
IfBad errors.Memory P = Unit {0}
IfBad (errors.Bad f) P = P (place_of f)
