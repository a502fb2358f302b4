use Rattle.std.proofs.Common.{◌≡◌, ℕ, ◌+◌, ◌<◌, drop}
use Rattle.i9_model.specs.Late.{all_puts}
use Rattle.i9_model.specs.Writes.{wrapped, last_put}
use Rattle.i9_queue.specs.Queue.{waits_in}
use Rattle.i9_queue.proofs.queue.are_beside.Given as goal

abbrev pub invariant-loop-r : goal.invariant-loop-r
invariant-loop-r l = (k : ℕ) → k < l.n → last_put (all_puts (waits_in (drop l.r-index l.requests))) (wrapped (l.a + k)) ≡ last_put (all_puts (waits_in l.requests)) (wrapped (l.a + k))
