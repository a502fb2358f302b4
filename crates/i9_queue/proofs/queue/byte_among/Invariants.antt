use Rattle.std.proofs.Common.{◌≡◌, drop}
use Rattle.i9_model.specs.Late.{all_puts}
use Rattle.i9_model.specs.Writes.{last_put, or_earlier}
use Rattle.i9_queue.specs.Queue.{waits_in}
use Rattle.i9_queue.proofs.queue.byte_among.Given as goal

abbrev pub invariant-loop-r : goal.invariant-loop-r
invariant-loop-r l = or_earlier (last_put (all_puts (waits_in (drop l.r-index l.requests))) l.a) l.found ≡ last_put (all_puts (waits_in l.requests)) l.a
