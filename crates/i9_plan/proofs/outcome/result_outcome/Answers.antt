use Rattle.std.proofs.Common.{sym, ap, ◌∙◌, subst}
use Rattle.i9_model.specs.Step.{Action}
use Rattle.i9_exec.specs.Shown.{answer_of}
use Rattle.i9_processor.specs.Effect.{IsEffect}
use Rattle.i9_processor.specs.State.{state_of}
use Rattle.i9_plan.proofs.Outcomes.{by_result, result_stands, result_does}
use Rattle.i9_plan.proofs.outcome.result_outcome.Goals as goal

pub returns-in-None : goal.returns-in-None
returns-in-None c =
    let i = c.args.i.now in
    let s = state_of c.args.p.now in
    record {
      standing =
          sym (result_stands i s (answer_of c.answer-done.result) c.requires.result c.answer-done.ensures.answer ∙ ap (by_result i) c.in-None.is);
      effect =
          subst (λ (a : Action). IsEffect s a c.resulting.new.effect) (result_does i s (answer_of c.answer-done.result) c.requires.result c.answer-done.ensures.answer) c.resulting.ensures;
    }
