use Rattle.std.proofs.Common.{rules, ℕ, ◌^◌, ◌<◌, ap, ◌∙◌}
use Rattle.i9_isa.specs.Words.{bit}
use Rattle.i9_model.specs.declared.layout.TheConstants.{LOCALS}
use Rattle.i9_model.specs.State.{frame_sets}
use Rattle.i9_model.specs.Controls.{marks_after}
use Rattle.i9_model.specs.Stale.{picked}
use Rattle.i9_watch.specs.Bits.{bits_of}
use Rattle.i9_processor.proofs.MarkBits.{frame_marks}
use Rattle.i9_processor.proofs.marks.with_frame.Goals as goal

pub returns : goal.returns
returns c = λ locals fp long.
    let m = c.args.marks in
    let new = c.from.result in
    let low : m < 2 ^ 32 = search rules in
    let few : new < 2 ^ 16 = search rules in
    frame_marks m new locals fp low few long
    ∙ ap (λ (v : ℕ). marks_after (bit m) (frame_sets locals fp) (picked (λ k. k) 0 (bits_of v LOCALS))) c.from.ensures
