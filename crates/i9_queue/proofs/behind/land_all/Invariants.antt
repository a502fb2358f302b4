use Rattle.std.proofs.Common.{◌≡◌, length}
use Rattle.i9_memory.specs.Memory.{memory_of, KeepsRoom}
use Rattle.i9_model.specs.Late.{AreDueInOrder, due_puts, left_waiting, all_puts}
use Rattle.i9_queue.specs.Waits.{HasRoomFor, with_puts}
use Rattle.i9_queue.proofs.behind.land_all.Given as goal

abbrev pub invariant-loop-r : goal.invariant-loop-r
invariant-loop-r l = record {
  memory : with_puts (memory_of l.memory) (due_puts l.turn l.queue) ≡ with_puts (memory_of l.fn.memory) (due_puts l.turn l.fn.queue);
  requests : left_waiting l.turn l.queue ≡ left_waiting l.turn l.fn.queue;
  order : AreDueInOrder l.queue;
  room : HasRoomFor l.memory (all_puts l.queue);
  keeps : KeepsRoom l.fn.memory l.memory;
  no_more : KeepsRoom l.memory l.fn.memory;
}

abbrev pub decreases-loop-r : goal.decreases-loop-r
decreases-loop-r l = length l.queue
