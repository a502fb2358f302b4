-- The earlier states of a run.
use Rattle.std.specs.Prelude.{◌≡◌, ℕ, ◌≤◌, List, [], ◌∷◌}
use Rattle.i9_model.specs.Run.{Given, Record, counts_of, state_after}
use Rattle.i9_model.specs.Late.{turns}
use Rattle.i9_model.specs.Turns.{last_issue}
use Rattle.i9_course.specs.Course.{course}
use Rattle.i9_course.specs.PipelinedRun.{steps, IsPipelinedPast}

-- the last of these records is the c-th instruction; for c equal to 0 there is none
abbrev pub EndsAt : ℕ → List Record → Type 0
EndsAt c [] = c ≡ 0
EndsAt c (r ∷ rs) = (counts_of r.kind ≡ 1) × (r.after.count ≡ c)

-- The state after c instructions of a run: its records up to and with the c-th instruction.
pub record IsEarlier (g : Given) (c : ℕ) (rs : List Record) : Type 0 where
  pub past : IsPipelinedPast g rs
  pub last : EndsAt c rs

-- the turn at which the last of records issues, at first 1
abbrev pub issue_of : Given → List Record → ℕ
issue_of g rs = last_issue (turns (course g (steps rs)).late)

-- a run has at least so many instructions
pub record HasInstructions (g : Given) (c : ℕ) : Type 0 where
  pub records : List Record
  pub past : IsPipelinedPast g records
  pub reaches : c ≤ (state_after g records).count
