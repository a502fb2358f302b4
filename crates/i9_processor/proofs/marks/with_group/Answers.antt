use Rattle.std.proofs.Common.{rules, ◌^◌, ◌<◌, ap, ◌∙◌, arith}
use Rattle.i9_isa.specs.Words.{bit}
use Rattle.i9_model.specs.Writes.{pairs_at}
use Rattle.i9_model.specs.Controls.{marks_after}
use Rattle.i9_model.specs.Stale.{picked}
use Rattle.i9_watch.specs.Bits.{bits_of}
use Rattle.i9_storage.proofs.Saves.{none_picked}
use Rattle.i9_processor.proofs.MarkBits.{computed_is, replaced_small, ones_small, group_marks, none_marked}
use Rattle.i9_processor.proofs.marks.with_group.Goals as goal

-- nothing is marked, and nothing gets a mark
pub returns-then-new-eq0 : goal.returns-then-new-eq0
returns-then-new-eq0 c = grind (arith, none_marked, none_picked)

pub overflow_cast-result : goal.overflow_cast-result
overflow_cast-result c = grind (arith, computed_is, replaced_small)

pub returns : goal.returns
returns c = λ words long.
    let m = c.from-2.result in
    let r = c.args.r in
    let n = c.args.n in
    let low : m < 2 ^ 32 = search rules in
    let fits = ones_small r n c.requires.range in
    ap bit (computed_is m c.from.result r n c.requires.range)
    ∙ group_marks m c.from.result r n words low (omega (arith, fits)) c.requires.range long
    ∙ (λ i. marks_after (bit (c.from-2.ensures i)) (pairs_at (λ k. k) r words) (picked (λ k. k) r (bits_of (c.from.ensures i) n)))
