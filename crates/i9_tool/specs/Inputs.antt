-- What the files of a command say, in order, and what is to be done with it.
use Rattle.std.specs.Prelude.{◌≡◌, ℕ, List, [], ◌∷◌, ◌++◌, Option, Some, None}
use Rattle.i9_model.specs.Image.{Part}
use Rattle.i9_model.specs.ScheduleText.{first_version, Contents}
use Rattle.i9_schedule.specs.declared.command.Command.{Command as ScriptCommand}
use Rattle.i9_tool.specs.declared.words.Format.{Format}
use Rattle.i9_tool.specs.declared.words.Range.{Range}
use Rattle.i9_tool.specs.FileKinds.{File, Value, IsRead}
use Rattle.i9_tool.specs.CommandLine.{Command, Run, Asm, Dis, Gen, Tune, Driver, ByLength, ByScript}
use Rattle.i9_tool.specs.CommandLine.{plan_files, driver_files, files_of}

-- ---- files

-- what files say, in order
abbrev pub Inputs : List File → Type 0
Inputs [] = Unit {0}
Inputs (file ∷ files) = Value file.kind × Inputs files

-- each of them is read, and says this
abbrev pub AreRead : (List ℕ → Option (List ℕ)) → (files : List File) → Inputs files → Type 0
AreRead told [] said = Unit {0}
AreRead told (file ∷ files) said = IsRead told file said.0 × AreRead told files said.1

-- ---- what is to be done

-- what drives a run: a length with what is traced, or the commands of a script
pub data Drive : Type 0 where
  ToLength : (limit : ℕ) → (traced : Option Range) → Drive
  ByCommands : (commands : List ScriptCommand) → Drive

-- To run an image with the events of a schedule in so many sets, as far as it is driven; to print segments in a format;
-- to list an image; to run the job of a number in so many sets; or to tune a block of an image.
pub data Task : Type 0 where
  Runs : (pairs : List (ℕ × ℕ)) → (plan : Contents) → (sets : Option ℕ) → (drive : Drive) → Task
  Assembles : (format : Format) → (image : List Part) → Task
  Lists : (pairs : List (ℕ × ℕ)) → Task
  Generates : (number : ℕ) → (sets : Option ℕ) → Task
  Tunes : (pairs : List (ℕ × ℕ)) → (address : ℕ) → (count : ℕ) → Task

-- a schedule without events
abbrev pub no_schedule : Contents
no_schedule = record { version = first_version; events = [] }

-- the schedule that is named, or none
abbrev pub plan_of : (schedule : Option (List ℕ)) → Inputs (plan_files schedule) → Contents
plan_of None said = no_schedule
plan_of (Some name) said = said.0

-- what drives a run, with the script where one is named
abbrev pub drive_of : (driver : Driver) → Inputs (driver_files driver) → Drive
drive_of (ByLength limit traced) said = ToLength limit traced
drive_of (ByScript script) said = ByCommands said.0

-- a run, by what its files behind the image say
abbrev pub run_of : (schedule : Option (List ℕ)) → (driver : Driver) → Option ℕ → List (ℕ × ℕ)
    → Inputs (plan_files schedule ++ driver_files driver) → Task
run_of None driver sets pairs said = Runs pairs no_schedule sets (drive_of driver said)
run_of (Some name) driver sets pairs said = Runs pairs said.0 sets (drive_of driver said.1)

-- what a command asks to do with what its files say
abbrev pub task_of : (command : Command) → Inputs (files_of command) → Task
task_of (Run image schedule sets driver) said = run_of schedule driver sets said.0 said.1
task_of (Asm format source) said = Assembles format said.0
task_of (Dis image) said = Lists said.0
task_of (Gen number sets) said = Generates number sets
task_of (Tune image address count) said = Tunes said.0 address count

-- This is to be done by a command, whose files are read.
pub record IsTaskOf (told : List ℕ → Option (List ℕ)) (command : Command) (task : Task) : Type 0 where
  pub said : Inputs (files_of command)
  pub are_read : AreRead told (files_of command) said
  pub is : task ≡ task_of command said

-- the same of its parts: a schedule, and what drives a run
pub record SaysPlan (told : List ℕ → Option (List ℕ)) (schedule : Option (List ℕ)) (plan : Contents) : Type 0 where
  pub said : Inputs (plan_files schedule)
  pub are_read : AreRead told (plan_files schedule) said
  pub is : plan ≡ plan_of schedule said

pub record SaysDrive (told : List ℕ → Option (List ℕ)) (driver : Driver) (drive : Drive) : Type 0 where
  pub said : Inputs (driver_files driver)
  pub are_read : AreRead told (driver_files driver) said
  pub is : drive ≡ drive_of driver said
