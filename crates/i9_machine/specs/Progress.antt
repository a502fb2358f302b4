-- How far a machine has come.
use Rattle.std.specs.Prelude.{List}
use Rattle.i9_schedule.specs.Plan.{Plan}
use Rattle.i9_machine.specs.declared.line.Line.{Line}
use Rattle.i9_machine.specs.declared.machine.Machine.{Machine}

-- a machine, with the schedule that it follows and the lines that it has appended to so far
pub record Progress : Type 0 where
  pub machine : Machine
  pub plan : Plan
  pub lines : List Line

abbrev pub progress : Machine → Plan → List Line → Progress
progress m plan lines = record { machine = m; plan = plan; lines = lines }
