use Rattle.std.proofs.Common.{Bool, cond, ◌&&◌, sym, ap, ◌∙◌, subst}
use Rattle.i9_model.specs.declared.faults.TheConstants.{CONSTRAINT, RANGE}
use Rattle.i9_model.specs.Step.{Action}
use Rattle.i9_model.specs.Standing.{Faults, Runs, is_fault_name}
use Rattle.i9_processor.specs.Effect.{IsEffect}
use Rattle.i9_processor.specs.State.{state_of}
use Rattle.i9_plan.proofs.Outcomes.{branch_stands, branch_does}
use Rattle.i9_plan.proofs.outcome.branch_outcome.Goals as goal

pub returns-then-raises_range-clause-standing : goal.returns-then-raises_range-clause-standing
returns-then-raises_range-clause-standing c =
    let i = c.args.i.now in
    let s = state_of c.args.p.now in
    let faults = ap (λ (b : Bool). is_fault_name i.op && b) (sym c.jump_of-jump.ensures.taken) ∙ sym c.raises_range.ensures ∙ c.if-raises_range.true in
    sym (branch_stands i s c.requires.branch (c.results_by_name.ensures i _ _ _ _) ∙ ap (λ (b : Bool). cond b (Faults i (CONSTRAINT, RANGE)) (Runs i)) faults)

pub returns-else-raises_range : goal.returns-else-raises_range
returns-else-raises_range c =
    let i = c.args.i.now in
    let s = state_of c.args.p.now in
    record {
      standing =
          let runs = ap (λ (b : Bool). is_fault_name i.op && b) (sym c.jump_of-jump.ensures.taken) ∙ sym c.raises_range.ensures ∙ c.if-raises_range.false in
          sym (branch_stands i s c.requires.branch (c.results_by_name.ensures i _ _ _ _) ∙ ap (λ (b : Bool). cond b (Faults i (CONSTRAINT, RANGE)) (Runs i)) runs);
      effect =
          subst (λ (a : Action). IsEffect s a c.branching.new.effect) (branch_does i s c.requires.branch) c.branching.ensures;
    }
