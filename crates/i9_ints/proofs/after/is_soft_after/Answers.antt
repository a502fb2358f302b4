use Rattle.std.proofs.Common.{sym, ◌∙◌, arith}
use Rattle.std.proofs.lemmas.Bool.{lt-ltb}
use Rattle.i9_watch.specs.Watch.{frames_of}
use Rattle.i9_ints.proofs.AfterRecords.{soft_in_record, soft_in_frame, soft_as_before}
use Rattle.i9_ints.proofs.after.is_soft_after.Goals as goal

pub returns-then-a-record_address-lt-RECORD_SIZE : goal.returns-then-a-record_address-lt-RECORD_SIZE
returns-then-a-record_address-lt-RECORD_SIZE c = λ m.
    sym (soft_in_record m (frames_of c.args.w.now) c.args.e.now.push c.args.e.now.words c.args.a (omega arith) (omega arith) (omega arith))

pub returns-then-a-e-lt-FRAME_SIZE : goal.returns-then-a-e-lt-FRAME_SIZE
returns-then-a-e-lt-FRAME_SIZE c = λ m.
    lt-ltb _ _ (omega arith)
    ∙ sym (soft_in_frame m (frames_of c.args.w.now) c.args.e.now.push c.args.e.now.words c.args.a (omega arith) (omega arith) (omega arith) (omega arith) (omega arith))

pub returns-else-a-e-lt-FRAME_SIZE : goal.returns-else-a-e-lt-FRAME_SIZE
returns-else-a-e-lt-FRAME_SIZE c = λ m.
    c.soft.ensures ∙ sym (soft_as_before m (frames_of c.args.w.now) c.args.e.now.push c.args.e.now.words c.args.a (omega arith) (omega arith) (omega arith) (omega arith) (omega arith))
