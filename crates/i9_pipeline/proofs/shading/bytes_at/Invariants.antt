use Rattle.std.proofs.Common.{◌≡◌, length, map}
use Rattle.i9_model.specs.Frames.{places}
use Rattle.i9_processor.specs.State.{bytes_of}
use Rattle.i9_pipeline.proofs.shading.bytes_at.Given as goal

abbrev pub invariant-loop-k : goal.invariant-loop-k
invariant-loop-k l = record {
  bytes : l.bytes.items ≡ map (bytes_of l.p) (places l.a l.k);
  count : length l.bytes.items ≡ l.k;
}
