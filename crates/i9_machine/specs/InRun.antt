-- A machine at any place of a run.
use Rattle.std.specs.Prelude.{List, Option}
use Rattle.i9_model.specs.Run.{Given, Finish}
use Rattle.i9_course.specs.Course.{Item}
use Rattle.i9_schedule.specs.Plan.{Plan}
use Rattle.i9_machine.specs.declared.machine.Machine.{Machine}
use Rattle.i9_machine.specs.StandsFor.{StandsFor, FollowsUntil}

-- a machine stands for the first items of some run, and has answered its end, or a schedule follows them
pub record IsInRun (m : Machine) (plan : Plan) : Type 0 where
  pub given : Given
  pub items : List Item
  pub end : Option Finish
  pub stands : StandsFor given items end m
  pub follows : FollowsUntil given items end plan
