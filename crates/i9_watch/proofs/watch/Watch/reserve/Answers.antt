use Rattle.std.proofs.Common.{arith, rules}
use Rattle.i9_watch.specs.declared.page.Mark.TheVariants.{Soft, Live, Lost}
use Rattle.i9_watch.specs.Watch.{frames_of}
use Rattle.i9_watch.proofs.Watching.{same_frames, same_kept}
use Rattle.i9_watch.proofs.watch.Watch.reserve.Goals as goal

pub invariant_of-self-in-Break-1 : goal.invariant_of-self-in-Break-1
invariant_of-self-in-Break-1 c =
    same_kept c.args.self.now _ _ _ (omega arith) c.reserve.ensures.items (c.reserve-2.ensures.same Live) (c.reserve-2.ensures.same Lost)

pub invariant_of-self-2 : goal.invariant_of-self-2
invariant_of-self-2 c =
    same_kept c.args.self.now _ _ _ (search rules) c.reserve.ensures.items (c.reserve-2.ensures.same Live) (c.reserve-2.ensures.same Lost)

pub returns-in_err-reserve-clause-frames : goal.returns-in_err-reserve-clause-frames
unfolding frames_of
returns-in_err-reserve-clause-frames c = same_frames (c.reserve-2.ensures.same Soft) c.reserve.ensures.items (c.reserve-2.ensures.same Lost)

pub returns-clause-frames : goal.returns-clause-frames
unfolding frames_of
returns-clause-frames c = same_frames (c.reserve-2.ensures.same Soft) c.reserve.ensures.items (c.reserve-2.ensures.same Lost)
