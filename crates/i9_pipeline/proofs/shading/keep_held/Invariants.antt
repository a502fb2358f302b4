use Rattle.std.proofs.Common.{◌≡◌, take, reverse}
use Rattle.i9_processor.specs.State.{cache_of, bytes_of}
use Rattle.i9_pipeline.specs.Adding.{under}
use Rattle.i9_pipeline.proofs.shading.keep_held.Given as goal

abbrev pub invariant-loop-k : goal.invariant-loop-k
invariant-loop-k l = record {
  pieces : l.shade.pieces ≡ under (bytes_of l.p) (take l.k (reverse (cache_of l.p).held));
  due : l.shade.due ≡ l.fn.shade.due;
}
