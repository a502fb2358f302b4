use Rattle.std.proofs.Common.{◌<◌, ◌++◌, ◌∷◌, [], List, length, reverse, sym, ap, ◌∙◌, arith}
use Rattle.std.specs.Prelude.{slice_get}
use Rattle.i9_model.specs.declared.frame.Frame.{Frame}
use Rattle.i9_model.specs.declared.layout.TheConstants.{FRAME_SIZE}
use Rattle.i9_frames.specs.Sets.{Held}
use Rattle.i9_processor.specs.State.{cache_of, bytes_of}
use Rattle.i9_shade.specs.Shade.{Piece, Kept}
use Rattle.i9_pipeline.specs.Raw.{stood}
use Rattle.i9_pipeline.proofs.Pieces.{under_more, held_there}
use Rattle.i9_pipeline.proofs.shading.keep_held.Goals as goal
use Rattle.i9_pipeline.proofs.shading.keep_held.Goals.{in-Some, in_default}

pub loop-k-preserved : goal.loop-k-preserved
loop-k-preserved c =
    let f = bytes_of c.args.p.now in
    let held = (cache_of c.args.p.now).held in
    let k = c.loop-k.k in
    let inv = c.loop-k.invariant in
    let frames = ap (λ (h : Held). h.frames) c.sets-sets.ensures in
    let end = c.len-k-end.ensures in
    let long = ap (λ (fs : List Frame). length fs) frames in
    let test = c.loop-k-test.true in
    let lt : k < length held = omega (arith, end, long, test) in
    let same = ap (λ (fs : List Frame). slice_get (reverse fs) k) frames in
    elim c.match-at.branch [
      | in-Some w ↦ record {
        pieces =
            ap (λ (s : Kept). s.pieces) w.shade-is ∙ w.keep_frame.ensures.pieces
            ∙ ap (λ (ps : List Piece). ps ++ stood f w.in-Some.f.now.address FRAME_SIZE ∷ []) inv.pieces
            ∙ sym (under_more f held k w.in-Some.f.now (sym same ∙ sym w.in-Some.ensures) lt);
        due = ap (λ (s : Kept). s.due) w.shade-is ∙ w.keep_frame.ensures.due ∙ inv.due;
      }
      | in_default w ↦ absurd (held_there held k lt (sym same ∙ sym w.in_default.ensures))
    ]
