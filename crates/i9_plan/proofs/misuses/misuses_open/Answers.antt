use Rattle.std.proofs.Common.{sym}
use Rattle.i9_processor.specs.State.{state_of}
use Rattle.i9_plan.proofs.MarkUses.{zero_marks, clean_misuses, not_atomic}
use Rattle.i9_plan.proofs.misuses.misuses_open.Goals as goal

pub returns-then-marks-eq0 : goal.returns-then-marks-eq0
returns-then-marks-eq0 c =
    let s = state_of c.args.p.now in
    sym (clean_misuses c.args.i.now s c.requires.valid (zero_marks s c.marks.result c.marks.ensures c.if-marks-eq0.true) (not_atomic c.args.i.now.op c.requires.barrier))
