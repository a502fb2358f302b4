-- What of a machine lands late, as plain values, and the items that it stands for.
use Rattle.std.specs.Prelude.{◌≡◌, ℕ, ◌<◌, ◌≤◌, true, false, List, [], ◌∷◌, ◌++◌}
use Rattle.i9_model.specs.declared.need.Cell.{Cell}
use Rattle.i9_model.specs.declared.need.TimedNeed.{TimedNeed}
use Rattle.i9_model.specs.Memory.{stored}
use Rattle.i9_model.specs.State.{boot}
use Rattle.i9_model.specs.Run.{Given}
use Rattle.i9_model.specs.Turns.{Pending, StandsFor, last_issue, with_need}
use Rattle.i9_model.specs.Late.{Late, Wait, Shows, turns, resource, resources, landed, issued_cell, wait_of, due_puts}
use Rattle.i9_model.specs.Late.{left_waiting}
use Rattle.i9_course.specs.Course.{Item, course, last_done, ahead}

-- The open needs; the machine's turn, that of the last fence, and that at which the last record is done; registers with
-- what is planned for them; bytes of memory, and the requests that wait.
pub record Kernel : Type 0 where
  pub board : Pending
  pub turn : ℕ
  pub floor : ℕ
  pub done : ℕ
  pub cells : ℕ → Cell
  pub bytes : ℕ → ℕ
  pub queue : List Wait

-- It has all this as the course of these items has it at its turn, which is neither below the last issue nor above
-- that of what lies ahead.
pub record Lands (g : Given) (h : List Item) (k : Kernel) : Type 0 where
  pub board : StandsFor k.board (turns (course g h).late)
  pub fence : k.floor ≡ (course g h).fence
  pub last : k.done ≡ last_done (course g h).late
  pub begun : last_issue (turns (course g h).late) ≤ k.turn
  pub in_time : k.turn ≤ (ahead g h).turn
  pub shows : Shows (boot g.image) k.turn (course g h).late k.cells k.bytes k.queue

-- The turn becomes t, and what is due by then lands; no record issues.
pub record MovesTo (t : ℕ) (k j : Kernel) : Type 0 where
  pub board : j.board ≡ k.board
  pub turn : j.turn ≡ t
  pub done : j.done ≡ k.done
  pub cells : (r : ℕ) → r < resources → j.cells r ≡ landed t (k.cells r)
  pub bytes : j.bytes ≡ stored k.bytes (due_puts t k.queue)
  pub queue : j.queue ≡ left_waiting t k.queue

-- A record issues: its need is placed, what it writes is planned, and its bytes wait where it is a request, and else
-- act at once.
pub record Issues (x : Late) (k j : Kernel) : Type 0 where
  pub board : (rs : List TimedNeed) → StandsFor k.board rs → StandsFor j.board (with_need rs x.timed.need)
  pub turn : j.turn ≡ k.turn
  pub floor : j.floor ≡ k.floor
  pub done : j.done ≡ x.timed.done
  pub cells : (r : ℕ) → r < resources
      → j.cells r ≡ issued_cell x.timed.need.writes x.timed.done r (resource x.after r) (k.cells r)
  pub waits : x.timed.need.request ≡ true → (j.bytes ≡ k.bytes) × (j.queue ≡ k.queue ++ wait_of x ∷ [])
  pub acts : x.timed.need.request ≡ false → (j.bytes ≡ stored k.bytes x.puts) × (j.queue ≡ k.queue)
