use Rattle.std.proofs.Common.{ap, ◌∙◌}
use Rattle.i9_tool.specs.Outcome.{code_for}
use Rattle.i9_tool.proofs.Refusals.{follows}
use Rattle.i9_tool.proofs.Outcomes.{answers_refusal}
use Rattle.i9_tool.proofs.refusal.refuse.Goals as goal

pub returns-clause-answers : goal.returns-clause-answers
returns-clause-answers g c = answers_refusal _ _ _ _ _ _ _ c.print_reason-printed.ensures.prints c.ending_for_refusal.ensures c.ending_for.ensures

pub returns-clause-follows : goal.returns-clause-follows
returns-clause-follows g c =
    follows _ c.print_reason-printed.result _ c.print_reason-printed.ensures.takes_no_memory
    (c.ending_for.ensures ∙ ap (code_for c.print_reason-printed.result) c.ending_for_refusal.ensures)
