use Rattle.std.proofs.Common.{None, sym}
use Rattle.i9_processor.specs.State.{state_of}
use Rattle.i9_plan.proofs.Outcomes.{named_stands, named_does}
use Rattle.i9_plan.proofs.outcome.plain_outcome.Goals as goal

pub returns-clause-standing : goal.returns-clause-standing
returns-clause-standing c =
    let i = c.args.i.now in
    let s = state_of c.args.p.now in
    sym (named_stands i s None c.requires.result c.requires.branch c.requires.still (c.results_by_name.ensures i _ _ _ _) c.plan_plain.ensures.0)

pub returns-clause-effect : goal.returns-clause-effect
returns-clause-effect c = named_does c.args.i.now (state_of c.args.p.now) _ c.requires.still c.plan_plain.ensures.1
