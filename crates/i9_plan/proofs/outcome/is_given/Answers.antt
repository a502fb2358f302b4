use Rattle.std.proofs.Common.{rules, ◌≡◌, ℕ, [], Some, sym, ap, ◌∙◌, subst}
use Rattle.i9_model.specs.Operands.{value}
use Rattle.i9_model.specs.Results.{result_of, word, words}
use Rattle.i9_model.specs.Standing.{by_raised}
use Rattle.i9_model.specs.Step.{Action}
use Rattle.i9_processor.specs.Effect.{IsEffect}
use Rattle.i9_processor.specs.State.{state_of}
use Rattle.i9_plan.proofs.Answering.{one_answer}
use Rattle.i9_plan.proofs.Outcomes.{still_calm, result_stands, result_does, code_given}
use Rattle.i9_plan.proofs.outcome.is_given.Goals as goal

pub returns-in-Some : goal.returns-in-Some
returns-in-Some c =
    let i = c.args.i.now in
    let s = state_of c.args.p.now in
    let calm = still_calm i s (sym c.mismatches.ensures ∙ c.if-mismatches.false) c.requires.barrier c.requires.still in
    let table = c.in-Some.ensures.table (value s i.c) s.ac in
    let answer = one_answer i s c.value-a.result c.value-b.result (word c.in-Some.v s.ac) c.value-a.ensures c.value-b.ensures table in
    let does = result_does i s (word c.in-Some.v s.ac) c.requires.result answer in
    record {
      standing = λ given. sym (ap (by_raised i s) calm ∙ result_stands i s (word c.in-Some.v s.ac) c.requires.result answer);
      effect = λ given. subst (λ (a : Action). IsEffect s a c.give_word.new.effect) does (c.give_word.ensures.given given);
      passes = search rules;
    }

pub returns-in-Some-controls_by : goal.returns-in-Some-controls_by
returns-in-Some-controls_by c =
    let i = c.args.i.now in
    let s = state_of c.args.p.now in
    let n = c.in-Some-controls_by.ac in
    let calm = still_calm i s (sym c.mismatches.ensures ∙ c.if-mismatches.false) c.requires.barrier c.requires.still in
    let table = subst (λ (m : ℕ). result_of i.op c.value-a.result c.value-b.result (value s i.c) m ≡ Some (words [] n)) c.ac.ensures (c.in-Some-controls_by.ensures.table (value s i.c)) in
    let answer = one_answer i s c.value-a.result c.value-b.result (words [] n) c.value-a.ensures c.value-b.ensures table in
    let does = sym (code_given i s n c.in-Some-controls_by.ensures.none) ∙ result_does i s (words [] n) c.requires.result answer in
    record {
      standing = λ given. sym (ap (by_raised i s) calm ∙ result_stands i s (words [] n) c.requires.result answer);
      effect = λ given. subst (λ (a : Action). IsEffect s a c.set_controls.new.effect) does c.set_controls.ensures;
      passes = search rules;
    }
