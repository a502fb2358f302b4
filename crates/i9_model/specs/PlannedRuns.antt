-- Runs that get their events from a plan, for any way in which what comes next depends on the event that stands there.
use Rattle.std.specs.Prelude.{◌≡◌, ◌⊎◌, ℕ, ◌+◌, ◌≤◌, List, [], ◌∷◌, ◌++◌, length, Option, Some, None}
use Rattle.i9_model.specs.declared.event.Event.{Event}
use Rattle.i9_model.specs.declared.event.Timed.{Timed}
use Rattle.i9_model.specs.ScheduleText.{timed_at, standing}
use Rattle.i9_model.specs.Run.{Record, Finish, Next, Does, Ends, IsPastOf, reached_last}

-- what comes after records, newest first, where this event stands
abbrev pub Stepping : Type 0
Stepping = Option Event → List Record → Next

-- how many instructions records count, and which events they reached
pub record Tally : Type 0 where
  pub count : List Record → ℕ
  pub reached : List Record → List Timed

-- An event that stands is reached at once, by a record or with the end, or what comes does not depend on it; where none
-- stands, none is reached.
pub record IsHeedful (next : Stepping) (t : Tally) : Type 0 where
  pub start : t.reached [] ≡ []
  pub quiet : (rs : List Record) (r : Record) → next None rs ≡ Does r → t.reached (r ∷ rs) ≡ t.reached rs
  pub silent : (rs : List Record) (f : Finish) → next None rs ≡ Ends f → f.event ≡ None
  pub heard : (rs : List Record) (e : Event) → (next (Some e) rs ≡ next None rs)
      ⊎ ((r : Record) × (next (Some e) rs ≡ Does r)
      × (t.reached (r ∷ rs) ≡ t.reached rs ++ timed_at (t.count rs) e ∷ []))
      ⊎ ((f : Finish) × (next (Some e) rs ≡ Ends f) × (f.event ≡ Some e))

-- what comes after records by a plan: the event that stands is the first that was not reached, once its count has come
abbrev pub next_by : Stepping → Tally → List Timed → List Record → Next
next_by next t plan rs = next (standing plan (length (t.reached rs)) (t.count rs)) rs

-- the events that records reached, and the one that was reached with an end
abbrev pub reached_with : Tally → List Record → Finish → List Timed
reached_with t rs f = t.reached rs ++ reached_last (t.count rs) f.event

-- these are the first records by a plan
abbrev pub IsPastBy : Stepping → Tally → List Timed → List Record → Type 0
IsPastBy next t plan rs = IsPastOf (next_by next t plan) rs

-- No record makes the count less; and where an event would be reached, by a record or with the end, what is done
-- without it is an instruction.
pub record IsCounted (next : Stepping) (t : Tally) : Type 0 where
  pub grows : (o : Option Event) (rs : List Record) (r : Record) → next o rs ≡ Does r → t.count rs ≤ t.count (r ∷ rs)
  pub counts : (rs : List Record) (e : Event) (q r : Record) → next (Some e) rs ≡ Does q
      → t.reached (q ∷ rs) ≡ t.reached rs ++ timed_at (t.count rs) e ∷ [] → next None rs ≡ Does r
      → t.count (r ∷ rs) ≡ t.count rs + 1
  pub ends : (rs : List Record) (e : Event) (f : Finish) (r : Record) → next (Some e) rs ≡ Ends f → f.event ≡ Some e
      → next None rs ≡ Does r → t.count (r ∷ rs) ≡ t.count rs + 1
