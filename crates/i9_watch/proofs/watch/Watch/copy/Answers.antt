use Rattle.std.proofs.Common.{arith}
use Rattle.std.specs.List.{each_same}
use Rattle.i9_watch.specs.declared.page.Mark.TheVariants.{Soft, Live, Lost}
use Rattle.i9_watch.specs.Watch.{frames_of}
use Rattle.i9_watch.proofs.Watching.{same_frames, same_kept}
use Rattle.i9_watch.proofs.watch.Watch.copy.Goals as goal

pub invariant_of-result : goal.invariant_of-result
invariant_of-result c =
    let live = each_same c.args.self.now.live.items c.in-Ok.live.items c.in-Ok.ensures.cases.0 in
    same_kept c.args.self.now _ _ _ (omega arith) live (c.in_ok-marks.ensures.marks Live) (c.in_ok-marks.ensures.marks Lost)

pub returns-in-Ok-clause-frames : goal.returns-in-Ok-clause-frames
unfolding frames_of
returns-in-Ok-clause-frames c =
    let live = each_same c.args.self.now.live.items c.in-Ok.live.items c.in-Ok.ensures.cases.0 in
    same_frames (c.in_ok-marks.ensures.marks Soft) live (c.in_ok-marks.ensures.marks Lost)
