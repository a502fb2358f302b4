use Rattle.std.proofs.Common.{◌≡◌, Some, None, rules, sym, ap, ◌∙◌}
use Rattle.i9_model.specs.Standing.{by_raised}
use Rattle.i9_processor.specs.State.{state_of}
use Rattle.i9_plan.proofs.Outcomes.{barrier_kind, barrier_stands, barrier_does, allowed_stands}
use Rattle.i9_plan.proofs.barriers.barrier_outcome.Goals as goal

pub raised_in-requires-clause-still : goal.raised_in-requires-clause-still
raised_in-requires-clause-still c = (barrier_kind c.args.i.now.op c.requires.barrier).0

pub returns-in-Ok : goal.returns-in-Ok
returns-in-Ok c = record {
  standing =
      let i = c.args.i.now in
      let s = state_of c.args.p.now in
      let none : c.raised_in.result ≡ None = search rules in
      let stands = barrier_stands i s None c.requires.barrier (c.results_by_name.ensures i _ _ _ _) c.in-Ok.ensures.0 in
      sym (sym (allowed_stands i s (sym c.misuses.ensures ∙ c.if-misuses.false)) ∙ ap (by_raised i s) (sym c.raised_in.ensures ∙ none) ∙ stands);
  effect = barrier_does c.args.i.now (state_of c.args.p.now) _ c.requires.barrier c.in-Ok.ensures.1;
}

pub returns-in-Err-clause-standing : goal.returns-in-Err-clause-standing
returns-in-Err-clause-standing c =
    let i = c.args.i.now in
    let s = state_of c.args.p.now in
    let none : c.raised_in.result ≡ None = search rules in
    let stands = barrier_stands i s (Some _) c.requires.barrier (c.results_by_name.ensures i _ _ _ _) c.in-Err.ensures in
    sym (sym (allowed_stands i s (sym c.misuses.ensures ∙ c.if-misuses.false)) ∙ ap (by_raised i s) (sym c.raised_in.ensures ∙ none) ∙ stands)
