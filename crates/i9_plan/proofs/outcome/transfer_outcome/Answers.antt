use Rattle.std.proofs.Common.{Some, None, sym, ap, ◌∙◌}
use Rattle.i9_model.specs.Standing.{by_raised}
use Rattle.i9_processor.specs.State.{state_of}
use Rattle.i9_plan.proofs.Outcomes.{transfer_stands}
use Rattle.i9_plan.proofs.outcome.transfer_outcome.Goals as goal

pub returns-in-None-clause-standing : goal.returns-in-None-clause-standing
returns-in-None-clause-standing c =
    let i = c.args.i.now in
    let s = state_of c.args.p.now in
    let calm = sym c.raised_by_transfer.ensures ∙ c.in_default.is in
    sym (ap (by_raised i s) calm ∙ transfer_stands i s c.args.m.transfer None c.requires.moves.same (c.results_by_name.ensures i _ _ _ _) c.in-None.ensures.plans.0)

pub returns-in-Some-plan_transfer-clause-standing : goal.returns-in-Some-plan_transfer-clause-standing
returns-in-Some-plan_transfer-clause-standing c =
    let i = c.args.i.now in
    let s = state_of c.args.p.now in
    let calm = sym c.raised_by_transfer.ensures ∙ c.in_default.is in
    sym (ap (by_raised i s) calm ∙ transfer_stands i s c.args.m.transfer (Some _) c.requires.moves.same (c.results_by_name.ensures i _ _ _ _) c.in-Some-plan_transfer.ensures.plans)
