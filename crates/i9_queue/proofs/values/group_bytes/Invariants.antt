use Rattle.std.proofs.Common.{◌≡◌, ◌*◌, length, take}
use Rattle.i9_model.specs.Step.{bytes_of_words}
use Rattle.i9_memory.specs.Memory.{memory_of}
use Rattle.i9_queue.proofs.values.group_bytes.Given as goal

abbrev pub invariant-loop-k : goal.invariant-loop-k
invariant-loop-k l = record {
  bytes : l.bytes.items ≡ bytes_of_words (memory_of l.m) l.a (take l.k l.words);
  count : length l.bytes.items ≡ 4 * l.k;
}
