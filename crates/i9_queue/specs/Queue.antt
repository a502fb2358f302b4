-- What waits in a queue.
use Rattle.std.specs.Prelude.{ℕ, ◌<◌, List, [], ◌∷◌}
use Rattle.i9_model.specs.Late.{Wait}
use Rattle.i9_model.specs.Writes.{upwards}
use Rattle.i9_queue.specs.declared.queue.Request.{Request}

-- a request as its bytes with their addresses, and its turn
abbrev pub wait_in : Request → Wait
wait_in r = record { puts = upwards r.address r.bytes.items; due = r.due }

abbrev pub waits_in : List Request → List Wait
waits_in [] = []
waits_in (r ∷ rs) = wait_in r ∷ waits_in rs

-- the first request is not due by the turn
abbrev pub NoneDue : ℕ → List Wait → Type 0
NoneDue turn [] = Unit {0}
NoneDue turn (w ∷ ws) = turn < w.due
