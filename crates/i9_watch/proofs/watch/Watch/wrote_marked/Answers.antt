use Rattle.std.proofs.Common.{ℕ, Bool, refl, ap, ◌∙◌}
use Rattle.std.specs.Prelude.{◌&&◌, ◌||◌, not}
use Rattle.i9_model.specs.Frames.{in_bytes}
use Rattle.i9_watch.specs.declared.page.Mark.TheVariants.{Soft, Live, Lost}
use Rattle.i9_watch.specs.Bits.{bits_of}
use Rattle.i9_watch.specs.Marks.{is_marked}
use Rattle.i9_watch.specs.Watch.{frames_of}
use Rattle.i9_watch.proofs.Marking.{same_marks}
use Rattle.i9_watch.proofs.Runs.{runs-bytes}
use Rattle.i9_watch.proofs.Watching.{same_frames, no_change, set_where, clear_where, same_kept}
use Rattle.i9_watch.proofs.watch.Watch.wrote_marked.Goals as goal

pub invariant_of-self : goal.invariant_of-self
invariant_of-self c =
    let w = c.args.self.now in
    same_kept w _ _ _ w.room refl
    (no_change _ (c.change_runs.ensures.marks Live) ∙ no_change _ (c.store.ensures.marks Live))
    (no_change _ (c.change_runs.ensures.marks Lost) ∙ no_change _ (c.store.ensures.marks Lost))

pub returns-clause-frames : goal.returns-clause-frames
unfolding frames_of
returns-clause-frames c =
    let hard = λ (x : ℕ). is_marked Soft c.args.self.now.marks x && not (in_bytes c.args.a c.args.n x) in
    same_frames
    (set_where _ (clear_where _ _ (c.store.ensures.marks Soft)) (c.change_runs.ensures.marks Soft)
    ∙ ap (λ (p : ℕ → Bool). λ (x : ℕ). p x || hard x) (same_marks _ _ (runs-bytes c.args.a (bits_of c.args.marks c.args.n))))
    refl
    (no_change _ (c.change_runs.ensures.marks Lost) ∙ no_change _ (c.store.ensures.marks Lost))
