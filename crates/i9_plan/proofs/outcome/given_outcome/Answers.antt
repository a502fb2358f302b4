use Rattle.std.proofs.Common.{sym, ap, ◌∙◌}
use Rattle.i9_model.specs.Standing.{by_raised}
use Rattle.i9_processor.specs.State.{state_of}
use Rattle.i9_plan.proofs.Outcomes.{still_calm, mismatch_raised}
use Rattle.i9_plan.proofs.outcome.given_outcome.Goals as goal

pub returns-then-mismatches-clause-standing : goal.returns-then-mismatches-clause-standing
returns-then-mismatches-clause-standing c =
    let i = c.args.i.now in
    let s = state_of c.args.p.now in
    sym (ap (by_raised i s) (mismatch_raised i s (sym c.mismatches.ensures ∙ c.if-mismatches.true)))

pub returns-else-mismatches-clause-standing : goal.returns-else-mismatches-clause-standing
returns-else-mismatches-clause-standing c =
    let i = c.args.i.now in
    let s = state_of c.args.p.now in
    let fits = sym c.mismatches.ensures ∙ c.if-mismatches.false in
    c.result_outcome.ensures.standing ∙ sym (ap (by_raised i s) (still_calm i s fits c.requires.barrier c.requires.still))
