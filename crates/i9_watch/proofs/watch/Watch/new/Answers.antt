use Rattle.std.proofs.Common.{arith}
use Rattle.i9_watch.specs.declared.page.Mark.TheVariants.{Soft, Live, Lost}
use Rattle.i9_watch.specs.Watch.{frames_of}
use Rattle.i9_watch.proofs.Watching.{same_frames, none_kept}
use Rattle.i9_watch.proofs.watch.Watch.new.Goals as goal

pub invariant_of-result : goal.invariant_of-result
invariant_of-result c = none_kept _ _ _ _ (omega arith) c.new-2.ensures.items (c.new.ensures.marks Live) (c.new.ensures.marks Lost)

pub returns-clause-frames : goal.returns-clause-frames
unfolding frames_of
returns-clause-frames c = same_frames (c.new.ensures.marks Soft) c.new-2.ensures.items (c.new.ensures.marks Lost)
