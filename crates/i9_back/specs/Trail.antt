-- Machines that are kept at earlier states of a run, and what is found between two of those.
use Rattle.std.specs.Prelude.{◌≡◌, ℕ, ◌≤◌, List, ◌++◌, length, Option}
use Rattle.std.specs.List.{AllByRecursion}
use Rattle.i9_model.specs.Run.{Given, Record}
use Rattle.i9_schedule.specs.Plan.{Plan}
use Rattle.i9_course.specs.PipelinedRun.{steps}
use Rattle.i9_machine.specs.StandsFor.{Follows}
use Rattle.i9_back.specs.declared.trail.Kept.{Kept}
use Rattle.i9_back.specs.declared.trail.Trail.{Trail}
use Rattle.i9_back.specs.Earlier.{IsEarlier}
use Rattle.i9_back.specs.Stands.{StandsEarlier, last_change}

-- a machine that is kept stands for the state after its count, behind its place of the schedule, whatever version that
-- has
pub record IsKept (g : Given) (k : Kept) : Type 0 where
  pub stands : (version : ℕ)
      → StandsEarlier g k.count k.machine (record { version = version; events = g.plan; place = k.place })
  pub within : k.place ≤ length g.plan

-- each of a trail is
abbrev pub IsTrail : Given → Trail → Type 0
IsTrail g t = AllByRecursion (IsKept g) t.kept.items

-- ---- what is found

-- A relation finds this among the records between two earlier states.
pub record FoundBetween {X : Type 0} (finds : List Record → Option X → Type 0) (g : Given) (from to : ℕ)
    (found : Option X) : Type 0 where
  pub older : List Record
  pub newer : List Record
  pub start : IsEarlier g from older
  pub earlier : IsEarlier g to (newer ++ older)
  pub is : finds newer found

-- what last changed a byte
abbrev pub ChangedLast : ℕ → List Record → Option (ℕ × ℕ) → Type 0
ChangedLast a rs found = found ≡ last_change a rs

-- a schedule stands behind an earlier state
pub record FollowsEarlier (g : Given) (c : ℕ) (plan : Plan) : Type 0 where
  pub records : List Record
  pub earlier : IsEarlier g c records
  pub follows : Follows g (steps records) plan
