use Rattle.std.proofs.Common.{ℕ, List, ap, ◌∙◌, arith}
use Rattle.std.specs.Prelude.{◌&&◌}
use Rattle.i9_model.specs.Frames.{in_frames}
use Rattle.i9_watch.specs.declared.page.Mark.TheVariants.{Soft, Live, Lost}
use Rattle.i9_watch.specs.Marks.{is_marked}
use Rattle.i9_watch.specs.Watch.{frames_of}
use Rattle.i9_watch.proofs.Watching.{same_frames, no_change, lost-returned, returned_kept}
use Rattle.i9_watch.proofs.watch.Watch.returned.Goals as goal

pub invariant_of-self : goal.invariant_of-self
invariant_of-self c =
    let w = c.args.self.now in
    let left = lost-returned w _ _ _ c.in-Some.ensures.items (c.change.ensures.marks Lost) in
    returned_kept w _ _ _ _ (omega arith) c.in-Some.ensures.items (c.change.ensures.marks Live) left

pub returns-in-Some-clause-frames : goal.returns-in-Some-clause-frames
unfolding frames_of
returns-in-Some-clause-frames c =
    let w = c.args.self.now in
    same_frames (no_change _ (c.change.ensures.marks Soft)) c.pop_front.ensures.rest
    (lost-returned w _ _ _ c.in-Some.ensures.items (c.change.ensures.marks Lost)
    ∙ ap (λ (fs : List ℕ). λ (x : ℕ). is_marked Lost w.marks x && in_frames fs x) c.pop_front.ensures.rest)
