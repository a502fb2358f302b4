use Rattle.std.proofs.Common.{ℕ, Bool, refl, ap, ◌∙◌, arith}
use Rattle.std.specs.Prelude.{◌||◌}
use Rattle.i9_model.specs.declared.layout.TheConstants.{FRAME_SIZE}
use Rattle.i9_model.specs.Frames.{in_bytes}
use Rattle.i9_watch.specs.declared.page.Mark.TheVariants.{Soft, Live, Lost}
use Rattle.i9_watch.specs.Bits.{bits_of}
use Rattle.i9_watch.specs.Marks.{is_marked}
use Rattle.i9_watch.specs.Watch.{frames_of}
use Rattle.i9_watch.proofs.Marking.{same_marks}
use Rattle.i9_watch.proofs.Runs.{runs-words}
use Rattle.i9_watch.proofs.Watching.{same_frames, no_change, set_where, called_kept}
use Rattle.i9_watch.proofs.watch.Watch.called.Goals as goal

pub invariant_of-self : goal.invariant_of-self
invariant_of-self c =
    called_kept c.args.self.now _ _ _ (omega arith) c.args.a c.args.marks c.requires.aligned c.requires.free c.push_front_reserved.ensures.items
    (no_change _ (c.change_runs.ensures.marks Live) ∙ set_where (in_bytes c.args.a FRAME_SIZE) refl (c.change.ensures.marks Live))
    (set_where _ (no_change _ (c.change.ensures.marks Lost)) (c.change_runs.ensures.marks Lost))

pub returns-clause-frames : goal.returns-clause-frames
unfolding frames_of
returns-clause-frames c =
    let lost = is_marked Lost c.args.self.now.marks in
    same_frames
    (no_change _ (c.change_runs.ensures.marks Soft) ∙ set_where (in_bytes c.args.a FRAME_SIZE) refl (c.change.ensures.marks Soft))
    c.push_front_reserved.ensures.items
    (set_where _ (no_change _ (c.change.ensures.marks Lost)) (c.change_runs.ensures.marks Lost)
    ∙ ap (λ (p : ℕ → Bool). λ (x : ℕ). p x || lost x) (same_marks _ _ (runs-words c.args.a (bits_of c.args.marks 16))))
