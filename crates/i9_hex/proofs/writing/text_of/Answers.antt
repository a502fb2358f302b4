use Rattle.std.proofs.Common.{◌≡◌, refl}
use Rattle.i9_hex.specs.Writing.{body_lines, upper_after}
use Rattle.i9_hex.proofs.WrittenPieces.{text_turn, text_end}
use Rattle.i9_hex.proofs.writing.text_of.Goals as goal

pub loop-segment-init : goal.loop-segment-init
unfolding body_lines upper_after
loop-segment-init c = record { text = c.new-text.ensures.items; upper = refl }

pub loop-segment-preserved : goal.loop-segment-preserved
loop-segment-preserved c =
    let s = c.segment-item.result in
    let bytes : c.deref.result.now ≡ s.bytes.items = c.deref.ensures.value in
    let t = text_turn c.args.segments.now c.loop-segment.segment-index c.in_ok-upper.upper c.loop-segment.upper s c.loop-segment.text.items c.add_segment.new.text.items c.loop-segment-test.true c.segment-item.is
    c.loop-segment.invariant.text c.loop-segment.invariant.upper (rw bytes at c.in_ok-upper.ensures.text) (rw bytes at c.in_ok-upper.ensures.upper) in
    record { text = t.0; upper = t.1 }

pub returns : goal.returns
returns c = text_end c.args.segments.now c.loop-segment.segment-index c.loop-segment.text.items c.add_record.new.text.items c.loop-segment-test.false c.loop-segment.invariant.text c.in_ok-add_record.ensures
