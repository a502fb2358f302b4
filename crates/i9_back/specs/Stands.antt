-- A machine that stands for an earlier state, and what last changed a byte up to it.
use Rattle.std.specs.Prelude.{◌≡◌, ℕ, ◌&&◌, if◌then◌else◌, nat_eq, not, Bool, true, false, List, [], ◌∷◌, ◌++◌, Option}
use Rattle.std.specs.Prelude.{Some, None}
use Rattle.i9_model.specs.Overlay.{overlay}
use Rattle.i9_model.specs.Run.{Given, Record, counts_of}
use Rattle.i9_schedule.specs.Plan.{Plan}
use Rattle.i9_course.specs.PipelinedRun.{steps}
use Rattle.i9_machine.specs.declared.machine.Machine.{Machine}
use Rattle.i9_machine.specs.StandsFor.{StandsFor, Follows}
use Rattle.i9_back.specs.Earlier.{IsEarlier, HasInstructions, issue_of}

-- a machine stands for the state after c instructions, at the turn at which the last of them issued, and a schedule
-- follows it
pub record StandsEarlier (g : Given) (c : ℕ) (m : Machine) (plan : Plan) : Type 0 where
  pub records : List Record
  pub earlier : IsEarlier g c records
  pub turn : m.pipeline.turn ≡ issue_of g records
  pub stands : StandsFor g (steps records) None m
  pub follows : Follows g (steps records) plan

-- a schedule has the same events as before, and stands behind as many of them
abbrev pub StaysAt : Plan → Plan → Type 0
StaysAt old new = (new.events ≡ old.events) × (new.place ≡ old.place)

-- it does of some run, which has at least so many instructions
pub record CanGoOn (from to : ℕ) (m : Machine) (plan : Plan) : Type 0 where
  pub given : Given
  pub stands : StandsEarlier given from m plan
  pub reaches : HasInstructions given to

-- ---- what changed a byte

-- bytes that are compared are the same, or none is compared
abbrev pub same_byte : Option ℕ → Option ℕ → Bool
same_byte None None = true
same_byte None (Some y) = false
same_byte (Some x) None = false
same_byte (Some x) (Some y) = nat_eq x y

-- the step of an instruction changed the byte at an address
abbrev pub changes : ℕ → Record → Bool
changes a r = nat_eq (counts_of r.kind) 1 && not (same_byte (overlay r.before a) (overlay r.after a))

-- the newest of records that changed it: how many instructions there are up to it, and its address
abbrev pub last_change : ℕ → List Record → Option (ℕ × ℕ)
last_change a [] = None
last_change a (r ∷ rs) = if changes a r then Some (r.after.count, r.before.ip) else last_change a rs

-- A machine went on from records to the state after more instructions, and this is the last change among the newer
-- ones.
pub record Watched (g : Given) (older : List Record) (to a : ℕ) (found : Option (ℕ × ℕ)) (m : Machine)
    (plan : Plan) : Type 0 where
  pub newer : List Record
  pub earlier : IsEarlier g to (newer ++ older)
  pub is : found ≡ last_change a newer
  pub turn : m.pipeline.turn ≡ issue_of g (newer ++ older)
  pub stands : StandsFor g (steps (newer ++ older)) None m
  pub follows : Follows g (steps (newer ++ older)) plan

-- This is the last change among the first c instructions of a run, and a schedule stands behind them.
pub record IsLastChange (g : Given) (c a : ℕ) (found : Option (ℕ × ℕ)) (plan : Plan) : Type 0 where
  pub records : List Record
  pub earlier : IsEarlier g c records
  pub is : found ≡ last_change a records
  pub follows : Follows g (steps records) plan
