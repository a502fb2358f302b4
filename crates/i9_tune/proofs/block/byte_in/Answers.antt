use Rattle.std.proofs.Common.{refl, ◌∙◌}
use Rattle.i9_model.specs.Writes.{last_put}
use Rattle.i9_model.specs.Image.{pairs_of}
use Rattle.i9_tune.proofs.Loaded.{found_more}
use Rattle.i9_tune.proofs.block.byte_in.Goals as goal

pub loop-segment-init : goal.loop-segment-init
unfolding last_put pairs_of
loop-segment-init c = record { found = refl }

pub loop-segment-preserved : goal.loop-segment-preserved
loop-segment-preserved c = record {
  found = c.or-found.ensures
      ∙ found_more c.args.image.now c.loop-segment.segment-index c.args.a c.segment-item.result c.byte_of.result c.loop-segment.found c.loop-segment-test.true c.segment-item.is c.byte_of.ensures c.loop-segment.invariant.found;
}
