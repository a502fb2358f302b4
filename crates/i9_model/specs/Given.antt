-- What a run is given.
use Rattle.std.specs.Prelude.{ℕ, List, Option}
use Rattle.i9_model.specs.declared.event.Timed.{Timed}

-- The pairs of address and byte of an image; the plan of events; the most instructions; and the number of register
-- sets, where one is asked for.
pub record Given : Type 0 where
  pub image : List (ℕ × ℕ)
  pub plan : List Timed
  pub length : ℕ
  pub sets : Option ℕ

abbrev pub given : List (ℕ × ℕ) → List Timed → ℕ → Option ℕ → Given
given image plan length sets = record { image = image; plan = plan; length = length; sets = sets }
