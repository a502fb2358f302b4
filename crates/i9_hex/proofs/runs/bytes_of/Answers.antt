use Rattle.std.proofs.Common.{◌++◌, ap, ◌∙◌}
use Rattle.i9_model.specs.Image.{upwards, pairs_of}
use Rattle.i9_hex.proofs.Joining.{pairs_more}
use Rattle.i9_hex.proofs.runs.bytes_of.Goals as goal

pub loop-segment-init : goal.loop-segment-init
unfolding pairs_of
loop-segment-init c = c.new-pairs.ensures.items

pub loop-segment-preserved : goal.loop-segment-preserved
loop-segment-preserved c =
    let s = c.segment-item.result in
    pairs_more c.args.segments.now c.loop-segment.segment-index s _ _ c.loop-segment-test.true c.segment-item.is c.loop-segment.invariant
    (c.in_ok-add_bytes.ensures ∙ ap (λ bs. c.loop-segment.pairs.items ++ upwards s.address bs) c.deref.ensures.value)
