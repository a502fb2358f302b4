use Rattle.i9_processor.specs.State.{state_of}
use Rattle.i9_plan.proofs.MarkUses.{zero_marks}
use Rattle.i9_plan.proofs.MarkLists.{clean_result}
use Rattle.i9_plan.proofs.marks.result_marks.Goals as goal

pub returns-then-marks-eq0 : goal.returns-then-marks-eq0
returns-then-marks-eq0 c =
    let s = state_of c.args.p.now in
    clean_result c.args.i.now s (zero_marks s c.marks.result c.marks.ensures c.if-marks-eq0.true)
