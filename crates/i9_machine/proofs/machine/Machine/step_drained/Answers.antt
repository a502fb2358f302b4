use Rattle.std.proofs.Common.{sym, ◌∙◌, subst}
use Rattle.i9_course.specs.Course.{records_of}
use Rattle.i9_machine.specs.declared.machine.Machine.{Machine}
use Rattle.i9_machine.specs.Contents.{situation, contents_of}
use Rattle.i9_machine.specs.Opening.{HasKept}
use Rattle.i9_machine.specs.Overtaking.{HasPace}
use Rattle.i9_machine.specs.StandsFor.{left_after}
use Rattle.i9_machine.specs.Step.{stage}
use Rattle.i9_machine.proofs.Arriving.{kept_planned}
use Rattle.i9_machine.proofs.Ending.{finish_costs, end_fits}
use Rattle.i9_machine.proofs.machine.Machine.step_drained.Goals as goal

pub issue_turn-issue-requires-clause-pace : goal.issue_turn-issue-requires-clause-pace
issue_turn-issue-requires-clause-pace c =
    let u = c.requires.come in
    subst (λ (m : Machine). HasPace (contents_of m)) (sym c.next_step.ensures.like)
    (left_after u.given (records_of u.items), u.stands.paced)

pub issue_turn-issue-requires-clause-need : goal.issue_turn-issue-requires-clause-need
issue_turn-issue-requires-clause-need c =
    let mid = c.next_step.new.self in
    subst (λ (m : Machine). HasKept m.pipeline.floor mid.need) (sym c.next_step.ensures.like)
    (kept_planned (situation c.args.self.now) c.args.plan.now c.in-Ok.step mid c.in-Ok.ensures.next)

pub returns-in-Err-clause-costs : goal.returns-in-Err-clause-costs
returns-in-Err-clause-costs c =
    let before = stage c.args.self.now c.args.plan.now c.args.out.now in
    finish_costs before _ c.answer_end.result _ (end_fits before _ c.in-Err.ensures.next)
    (c.answer_end.ensures.processor ∙ (λ i. (c.next_step.ensures.like i).pipeline.processor))
    (rw c.next_step.ensures.like at c.answer_end.ensures.finishes)
