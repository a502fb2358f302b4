use Rattle.std.proofs.Common.{arith, refl}
use Rattle.i9_model.specs.Image.{wrapped}
use Rattle.i9_hex.proofs.PartLemmas.{pairs_at-more}
use Rattle.i9_hex.proofs.runs.add_bytes.Goals as goal

pub loop-byte-preserved : goal.loop-byte-preserved
loop-byte-preserved c = record {
  address = omega (arith, c.loop-byte.invariant.address);
  pairs = pairs_at-more wrapped c.args.start c.loop-byte.byte-index c.args.bytes.now _ _ _ c.loop-byte-test.true c.loop-byte.invariant.pairs (rw (c.in_ok-push.ensures.items, c.loop-byte.invariant.address) refl);
}
