use Rattle.std.proofs.Common.{◌≡◌}
use Rattle.i9_model.specs.HeldFrames.{over}
use Rattle.i9_queue.specs.Behind.{settled}
use Rattle.i9_storage.specs.Kept.{laid_without}
use Rattle.i9_storage.proofs.storage.reading.overlaid_byte.Given as goal

abbrev pub invariant-loop-k : goal.invariant-loop-k
invariant-loop-k l = record {
  rest : (laid_without l.k l.behind l.sets).bytes l.a ≡ (over l.sets.frames (settled l.behind)).bytes l.a;
}
