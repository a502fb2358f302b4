use Rattle.std.proofs.Common.{◌∙◌}
use Rattle.i9_watch.proofs.Watching.{where_true}
use Rattle.i9_watch.proofs.marks.Marks.change_if.Goals as goal

pub returns-then-is_asked-clause-marks : goal.returns-then-is_asked-clause-marks
returns-then-is_asked-clause-marks c = λ m. c.change.ensures.marks m ∙ where_true c.args.is_asked _ _ c.if-is_asked.true
