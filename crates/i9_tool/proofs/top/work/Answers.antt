use Rattle.std.proofs.Common.{◌∙◌, ap, arith}
use Rattle.i9_tool.specs.Outcome.{asked_for}
use Rattle.i9_tool.proofs.Reading.{nothing_fetched}
use Rattle.i9_tool.proofs.Refusals.{other_status}
use Rattle.i9_tool.proofs.Outcomes.{command_answered, words_refused}
use Rattle.i9_tool.proofs.top.work.Goals as goal

pub returns-in-Some-clause-answers : goal.returns-in-Some-clause-answers
returns-in-Some-clause-answers g c =
    command_answered _ _ _ _ _ _ _ _ (c.in-Some.ensures.asked ∙ ap asked_for c.deref.ensures.value) c.answer.ensures.answers

pub returns-in-None-clause-answers : goal.returns-in-None-clause-answers
returns-in-None-clause-answers g c =
    words_refused _ _ _ _ _ _ _ _ (c.in-None.ensures.asked ∙ ap asked_for c.deref.ensures.value) c.print_piece.ensures.prints c.ending_for.ensures

pub returns-in-None-clause-fetches : goal.returns-in-None-clause-fetches
returns-in-None-clause-fetches g c =
    nothing_fetched _ _ _ _ (c.in-None.ensures.asked ∙ ap asked_for c.deref.ensures.value)
    (other_status _ 1 _ (λ e. omega (arith, e)) c.ending_for.ensures)
