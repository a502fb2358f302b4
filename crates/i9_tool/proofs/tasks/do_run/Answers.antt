use Rattle.std.proofs.Common.{ap, ◌∙◌}
use Rattle.i9_schedule.specs.Plan.{contents}
use Rattle.i9_tool.proofs.Outcomes.{answers_unprinted, same_plan}
use Rattle.i9_tool.proofs.tasks.do_run.Goals as goal

pub returns-in-Ok-clause-answers : goal.returns-in-Ok-clause-answers
returns-in-Ok-clause-answers g c =
    let same = ap contents c.rewind.ensures.first ∙ c.in-Ok.ensures in
    same_plan _ _ _ _ _ _ _ _ _ same c.drive_run.ensures.answers

pub returns-clause-answers : goal.returns-clause-answers
returns-clause-answers g c = λ some. answers_unprinted _ _ _ some
