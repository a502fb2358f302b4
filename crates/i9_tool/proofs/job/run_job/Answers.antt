use Rattle.std.proofs.Common.{ap, ◌∙◌}
use Rattle.i9_tool.specs.Outcome.{code_for}
use Rattle.i9_tool.proofs.Outcomes.{answers_unprinted, job_counted}
use Rattle.i9_tool.proofs.job.run_job.Goals as goal

pub returns-in-Ok-clause-answers : goal.returns-in-Ok-clause-answers
returns-in-Ok-clause-answers g c = λ some.
    job_counted _ _ _ _ _ _ _ _ _ _ c.requires.assembled c.requires.said c.in-Ok.ensures c.print_generated-printed.ensures
    (c.ending_for.ensures ∙ ap (code_for c.print_generated-printed.result) c.ending_of.ensures)

pub returns-in-Err-clause-answers : goal.returns-in-Err-clause-answers
returns-in-Err-clause-answers g c = λ some. answers_unprinted _ _ _ some
