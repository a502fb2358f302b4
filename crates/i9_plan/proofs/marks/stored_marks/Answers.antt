use Rattle.i9_processor.specs.State.{state_of}
use Rattle.i9_plan.proofs.MarkUses.{zero_marks}
use Rattle.i9_plan.proofs.MarkLists.{clean_stored_marks}
use Rattle.i9_plan.proofs.marks.stored_marks.Goals as goal

pub returns-then-marks-eq0-clause-marks : goal.returns-then-marks-eq0-clause-marks
returns-then-marks-eq0-clause-marks c =
    let s = state_of c.args.p.now in
    clean_stored_marks c.args.size s c.args.o (zero_marks s c.marks.result c.marks.ensures c.if-marks-eq0.true)
