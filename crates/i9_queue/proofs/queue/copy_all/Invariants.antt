use Rattle.std.proofs.Common.{◌≡◌, ◌≤◌, take}
use Rattle.arrayvec.specs.ArrayVec.{array_vec_len}
use Rattle.i9_queue.specs.Queue.{waits_in}
use Rattle.i9_queue.proofs.queue.copy_all.Given as goal

abbrev pub invariant-loop-r : goal.invariant-loop-r
invariant-loop-r l = record {
  items : waits_in l.copies.items ≡ waits_in (take l.r-index l.requests);
  len : array_vec_len l.copies ≤ l.r-index;
}
