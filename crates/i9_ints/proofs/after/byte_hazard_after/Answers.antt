use Rattle.std.proofs.Common.{sym, ◌∙◌, arith}
use Rattle.i9_watch.specs.Watch.{frames_of}
use Rattle.i9_ints.proofs.AfterRecords.{hazard_in_frame, hazard_as_before}
use Rattle.i9_ints.proofs.after.byte_hazard_after.Goals as goal

pub returns-then-a-e-lt-FRAME_SIZE : goal.returns-then-a-e-lt-FRAME_SIZE
returns-then-a-e-lt-FRAME_SIZE c = λ m.
    sym (hazard_in_frame m (frames_of c.args.w.now) c.args.e.now.push c.args.e.now.words c.args.a (omega arith) (omega arith) (omega arith) (omega arith))

pub returns : goal.returns
returns c = λ m.
    c.byte_hazard.ensures ∙ sym (hazard_as_before m (frames_of c.args.w.now) c.args.e.now.push c.args.e.now.words c.args.a (omega arith) (omega arith) (omega arith) (omega arith))
