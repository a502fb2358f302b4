use Rattle.std.proofs.Common.{◌≡◌, ◌≤◌, take}
use Rattle.arrayvec.specs.ArrayVec.{array_vec_len}
use Rattle.i9_queue.proofs.queue.copy_bytes.Given as goal

abbrev pub invariant-loop-b : goal.invariant-loop-b
invariant-loop-b l = record {
  items : l.copies.items ≡ take l.b-index l.bytes;
  len : array_vec_len l.copies ≤ l.b-index;
}
