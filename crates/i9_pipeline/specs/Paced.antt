-- How far turns may come.
use Rattle.std.specs.Prelude.{ℕ, ◌+◌, ◌*◌, ◌^◌, ◌<◌, ◌≤◌}
use Rattle.i9_model.specs.Turns.{IsAllDone}
use Rattle.i9_pipeline.specs.Flow.{Flow}

-- Turns stay below 2^62: all records so far are done by a bound, and what is left of a run, of which each record takes
-- fewer than 2^8 turns, does not come further.
pub record IsPaced (f : Flow) (left : ℕ) : Type 0 where
  pub bound : ℕ
  pub far : bound + 2 ^ 8 * left < 2 ^ 62
  pub done : IsAllDone f.board bound
  pub now : f.turn ≤ bound
  pub fence : f.floor ≤ bound
