-- What the words ask for in the plain form of the definitions.
use Rattle.std.specs.Prelude.{◌≡◌, ℕ, ◌%◌, ◌<◌, ◌≤◌, Option, IfSome}
use Rattle.std.specs.Option.{option_copied}
use Rattle.i9_model.specs.declared.layout.TheConstants.{MAX_LENGTH}
use Rattle.i9_tool.specs.CommandLine.{Command, Run, Asm, Dis, Gen, Tune, most_tuned, Driver, ByLength, ByScript}
use Rattle.i9_tool.specs.declared.words.Block.{Block}
use Rattle.i9_tool.specs.declared.words.Asked.{Asked}
use Rattle.i9_tool.specs.declared.words.Asked.TheVariants as asked
use Rattle.i9_tool.specs.declared.words.JobWords.{JobWords}
use Rattle.i9_tool.specs.declared.words.RunWords.{RunWords}
use Rattle.i9_tool.specs.declared.words.TuneWords.{TuneWords}
use Rattle.i9_tool.specs.declared.words.Driver as code
use Rattle.i9_tool.specs.declared.words.Driver.TheVariants as drivers

abbrev pub driver_by : code.Driver → Driver
driver_by (drivers.Length limit traced) = ByLength limit traced
driver_by (drivers.Script name) = ByScript name.now

abbrev pub run_by : RunWords → Command
run_by run = Run run.image.now (option_copied run.schedule) run.sets (driver_by run.driver)

abbrev pub job_by : JobWords → Command
job_by job = Gen job.number job.sets

abbrev pub tune_by : TuneWords → Command
tune_by words = Tune words.image.now words.block.address words.block.count

abbrev pub asked_by : Asked → Command
asked_by (asked.Run run) = run_by run
asked_by (asked.Asm format source) = Asm format source.now
asked_by (asked.Dis image) = Dis image.now
asked_by (asked.Gen job) = job_by job
asked_by (asked.Tune words) = tune_by words

-- a number of sets that is asked for is from 1 to 15
abbrev pub AreFew : Option ℕ → Type 0
AreFew sets = IfSome sets (λ n. 0 < n × n < 16)

-- a length that is asked for is at most the greatest
abbrev pub IsShort : code.Driver → Type 0
IsShort (drivers.Length limit traced) = limit ≤ MAX_LENGTH
IsShort (drivers.Script name) = Unit {0}

-- a run of so many sets that is driven so can be asked for
pub record CanRun (run : RunWords) : Type 0 where
  pub few : AreFew run.sets
  pub short : IsShort run.driver

-- a block that may be asked for
pub record IsBlock (block : Block) : Type 0 where
  pub aligned : block.address % 4 ≡ 0
  pub few : block.count ≤ most_tuned

-- and nothing else is asked of what the words ask for
abbrev pub Fits : Asked → Type 0
Fits (asked.Run run) = CanRun run
Fits (asked.Asm format source) = Unit {0}
Fits (asked.Dis image) = Unit {0}
Fits (asked.Gen job) = AreFew job.sets
Fits (asked.Tune words) = IsBlock words.block
