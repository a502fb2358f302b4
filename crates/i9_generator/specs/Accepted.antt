-- What it says that a made job is accepted.
use Rattle.std.specs.Prelude.{ℕ, List}
use Rattle.i9_text.specs.Text.{lines_of}
use Rattle.i9_model.specs.Image.{Part}
use Rattle.i9_model.specs.declared.event.Timed.{Timed}
use Rattle.i9_model.specs.ScheduleText.{first_version, IsSchedule, IsPlan, IsByCounts}
use Rattle.i9_asm.specs.Laws.{IsAssembly}
use Rattle.i9_generator.specs.Generator.{generated_source, generated_schedule}

-- the source that is made from a number assembles without a fault
pub record HasAssembly (number : ℕ) : Type 0 where
  pub image : List Part
  pub assembled : IsAssembly (lines_of (generated_source number)) image

-- the schedule that is made from a number is read, as a plan whose events stand at counts
pub record HasPlan (number : ℕ) : Type 0 where
  pub events : List Timed
  pub said : IsSchedule (lines_of (generated_schedule number)) (record { version = first_version; events = events })
  pub plan : IsPlan events
  pub counted : IsByCounts events
