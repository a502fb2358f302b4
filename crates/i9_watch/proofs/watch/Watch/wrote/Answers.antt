use Rattle.std.proofs.Common.{refl}
use Rattle.i9_watch.specs.declared.page.Mark.TheVariants.{Soft, Live, Lost}
use Rattle.i9_watch.specs.Watch.{frames_of}
use Rattle.i9_watch.proofs.Watching.{same_frames, no_change, clear_where, same_kept}
use Rattle.i9_watch.proofs.watch.Watch.wrote.Goals as goal

pub invariant_of-self : goal.invariant_of-self
invariant_of-self c =
    let w = c.args.self.now in
    same_kept w _ _ _ w.room refl (no_change _ (c.store.ensures.marks Live)) (no_change _ (c.store.ensures.marks Lost))

pub returns-clause-frames : goal.returns-clause-frames
unfolding frames_of
returns-clause-frames c = same_frames (clear_where _ _ (c.store.ensures.marks Soft)) refl (no_change _ (c.store.ensures.marks Lost))
