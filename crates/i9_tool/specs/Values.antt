-- The values of the code in the plain form of the definitions, beside what the words ask for.
use Rattle.std.specs.Prelude.{◌≡◌, ℕ, ◌≤◌, List, length, Option, Some, None, Result, Ok, Err}
use Rattle.i9_model.specs.declared.layout.TheConstants.{MAX_LENGTH}
use Rattle.i9_model.specs.HexText.{most_bytes}
use Rattle.i9_model.specs.Image.{Part, pairs_of}
use Rattle.i9_model.specs.ScheduleText.{Contents}
use Rattle.i9_elf.specs.ImageReading.{fault_in}
use Rattle.i9_schedule.specs.Plan.{Plan, contents}
use Rattle.i9_tool.specs.declared.status.Ending.{Ending}
use Rattle.i9_tool.specs.declared.status.Ending.TheVariants as endings
use Rattle.i9_tool.specs.declared.refusal.FileKind.{FileKind}
use Rattle.i9_tool.specs.declared.refusal.FileKind.TheVariants.{Image, Schedule, Source, Script}
use Rattle.i9_tool.specs.declared.refusal.Refusal as code
use Rattle.i9_tool.specs.declared.refusal.Refusal.TheVariants as refusals
use Rattle.i9_tool.specs.declared.refusal.InputError.{InputError}
use Rattle.i9_tool.specs.declared.refusal.InputError.TheVariants as errors
use Rattle.i9_tool.specs.declared.inputs.Drive as drive
use Rattle.i9_tool.specs.declared.inputs.Drive.TheVariants as drives
use Rattle.i9_tool.specs.declared.inputs.Run as run
use Rattle.i9_tool.specs.declared.inputs.Task as task
use Rattle.i9_tool.specs.declared.inputs.Task.TheVariants as tasks
use Rattle.i9_tool.specs.declared.made.Made.{Made}
use Rattle.i9_tool.specs.declared.made.Made.TheVariants as made
use Rattle.i9_tool.specs.CommandLine.{segments_line}
use Rattle.i9_tool.specs.Outcome.{Answers, Only}
use Rattle.i9_lines.specs.Print.{Account}
use Rattle.i9_tool.specs.FileKinds.{Value, Says, FaultOf, IsFaulty, AreBytes}
use Rattle.i9_tool.specs.Refusals.{Refusal, Unread, TooLong, Faulty}
use Rattle.i9_tool.specs.Inputs.{Drive, ToLength, ByCommands, no_schedule}
use Rattle.i9_tool.specs.Inputs.{Task, Runs, Assembles, Lists, Generates, Tunes}
use Rattle.i9_tool.specs.Fetches.{Stop, Read, Refused, NoMemory}
use Rattle.i9_tool.specs.Words.{AreFew, IsBlock}

-- the status of an ending
abbrev pub code_of : Ending → ℕ
code_of endings.Done = 0
code_of endings.NoForm = 1
code_of endings.BadImage = 2
code_of endings.BadText = 3
code_of endings.Early = 4
code_of endings.Unread = 5
code_of endings.Unwritten = 6
code_of endings.NoMemory = 7

-- ---- reading

-- why files are refused
abbrev pub refusal_by : code.Refusal → Refusal
refusal_by refusals.Unread = Unread
refusal_by (refusals.TooLong kind) = TooLong kind
refusal_by (refusals.Image fault) = Faulty Image (fault_in fault)
refusal_by (refusals.Schedule fault) = Faulty Schedule (fault.line, fault.kind)
refusal_by (refusals.Source fault) = Faulty Source (fault.line, fault.kind)
refusal_by (refusals.Script fault) = Faulty Script (fault.line, fault.kind)

-- how reading ended
abbrev pub stop_by : InputError → Stop
stop_by (errors.Refused refusal) = Refused (refusal_by refusal)
stop_by errors.Memory = NoMemory

abbrev pub stop_of : {T : Type 0} → Result T InputError → Stop
stop_of (Ok value) = Read
stop_of (Err error) = stop_by error

-- what reading the bytes of a file answers: what they say, their first fault, or that memory was refused
abbrev pub Parses : {T : Type 0} → (kind : FileKind) → (T → Value kind) → List ℕ → Result T InputError → Type 0
Parses kind value bytes (Ok said) = Says kind bytes (value said)
Parses kind value bytes (Err (errors.Refused refusal)) =
    (fault : FaultOf kind) × IsFaulty kind bytes fault × (refusal_by refusal ≡ Faulty kind fault)
Parses kind value bytes (Err errors.Memory) = Unit {0}

-- ---- what is to be done

-- the schedule that was read, or none
abbrev pub plan_by : Option Plan → Contents
plan_by None = no_schedule
plan_by (Some plan) = contents plan

abbrev pub drive_by : drive.Drive → Drive
drive_by (drives.Length limit traced) = ToLength limit traced
drive_by (drives.Script commands) = ByCommands commands

abbrev pub run_by : run.Run → Task
run_by r = Runs (pairs_of r.image) (plan_by r.plan) r.sets (drive_by r.drive)

abbrev pub task_by : task.Task → Task
task_by (tasks.Run r) = run_by r
task_by (tasks.Asm format image) = Assembles format image
task_by (tasks.Dis image) = Lists (pairs_of image)
task_by (tasks.Gen job) = Generates job.number job.sets
task_by (tasks.Tune image block) = Tunes (pairs_of image) block.address block.count

-- ---- what is made and printed at once

abbrev pub made_code : Made → ℕ
made_code (made.Text text) = 0
made_code (made.Fault line) = 3
made_code made.TooManyRuns = 3

abbrev pub made_text : Made → List ℕ
made_text (made.Text text) = text.items
made_text (made.Fault line) = line.items
made_text made.TooManyRuns = segments_line

-- it is a status and a text of these
abbrev pub IsMade : (ℕ → List ℕ → Type 0) → Made → Type 0
IsMade gives m = gives (made_code m) (made_text m)

-- what printing it does, or nothing where memory was refused
abbrev pub PrintsMade : {K E : Type 0} → Result Made E → ℕ → Account K → K → K → Type 0
PrintsMade (Ok m) code k old new = Answers (Only (made_code m) (made_text m)) code k old new
PrintsMade (Err none) code k old new = (code ≡ 7) × (new ≡ old)

-- ---- what can be done

-- a length that drives a run is at most the greatest
abbrev pub IsDriven : drive.Drive → Type 0
IsDriven (drives.Length limit traced) = limit ≤ MAX_LENGTH
IsDriven (drives.Script commands) = Unit {0}

-- a run can be done
pub record CanRun (r : run.Run) : Type 0 where
  pub few : AreFew r.sets
  pub driven : IsDriven r.drive

-- segments can be printed
pub record CanPrint (image : List Part) : Type 0 where
  pub few : length (pairs_of image) ≤ most_bytes
  pub bytes : AreBytes (pairs_of image)

-- what was read can be done
abbrev pub CanDo : task.Task → Type 0
CanDo (tasks.Run r) = CanRun r
CanDo (tasks.Asm format image) = CanPrint image
CanDo (tasks.Dis image) = Unit {0}
CanDo (tasks.Gen job) = AreFew job.sets
CanDo (tasks.Tune image block) = IsBlock block
