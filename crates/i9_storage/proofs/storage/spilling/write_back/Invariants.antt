use Rattle.std.proofs.Common.{◌≡◌, ◌+◌, length}
use Rattle.i9_model.specs.HeldFrames.{over}
use Rattle.i9_queue.specs.Behind.{settled}
use Rattle.i9_storage.specs.Kept.{HaveRoom, KeepsBehind}
use Rattle.i9_storage.proofs.storage.spilling.write_back.Given as goal

abbrev pub invariant-loop : goal.invariant-loop
invariant-loop l = record {
  left : length l.sets.frames + l.counter ≡ length l.fn.sets.frames;
  laid : over l.sets.frames (settled l.behind) ≡ over l.fn.sets.frames (settled l.fn.behind);
  room : HaveRoom l.behind l.sets.frames;
  size : l.sets.size ≡ l.fn.sets.size;
  keeps : KeepsBehind l.fn.behind l.behind;
}
