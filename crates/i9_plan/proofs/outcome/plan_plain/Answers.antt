use Rattle.std.proofs.Common.{ℕ, Ok, refl, subst}
use Rattle.i9_isa.specs.declared.op.Op.TheVariants.{Lda, Bx, Balx, Bal}
use Rattle.i9_isa.specs.declared.inst.Operand.TheVariants.{Reg}
use Rattle.i9_model.specs.declared.layout.TheConstants.{LINK}
use Rattle.i9_model.specs.Step.{jumping, linking}
use Rattle.i9_processor.specs.Effect.{IsEffect}
use Rattle.i9_processor.specs.State.{state_of}
use Rattle.i9_plan.proofs.Outcomes.{plain_nothing, other_plan, by_name}
use Rattle.i9_plan.proofs.outcome.plan_plain.Goals as goal

pub returns-in-Lda : goal.returns-in-Lda
returns-in-Lda c = by_name Lda _ _ (Ok c.plan_lda.result) c.in-Lda.is (refl, c.plan_lda.ensures)

pub returns-in-Bx : goal.returns-in-Bx
returns-in-Bx c =
    let i = c.args.i.now in
    let s = state_of c.args.p.now in
    by_name Bx i s (Ok c.jumping.result) c.in-Bx.is (refl, subst (λ (a : ℕ). IsEffect s (jumping i s a) c.jumping.result) c.address.ensures c.jumping.ensures)

pub returns-in-Balx : goal.returns-in-Balx
returns-in-Balx c =
    let i = c.args.i.now in
    let s = state_of c.args.p.now in
    by_name Balx i s (Ok c.linking.result) c.in-Balx.is (refl, subst (λ (a : ℕ). IsEffect s (linking i.c i s a) c.linking.result) c.address-in-Balx.ensures c.linking.ensures)

pub returns-in-Bal : goal.returns-in-Bal
returns-in-Bal c =
    let i = c.args.i.now in
    let s = state_of c.args.p.now in
    by_name Bal i s (Ok c.linking-in-Bal.result) c.in-Bal.is (refl, subst (λ (a : ℕ). IsEffect s (linking (Reg LINK) i s a) c.linking-in-Bal.result) c.target.ensures c.linking-in-Bal.ensures)

pub returns-in_default : goal.returns-in_default
returns-in_default c =
    let i = c.args.i.now in
    let s = state_of c.args.p.now in
    let o = c.in_default in
    let r = c.requires in
    let nothing = plain_nothing i.op i s r.barrier r.still r.result r.branch o.not-Lda o.not-Bx o.not-Balx o.not-Bal in
    other_plan i s c.passing.result nothing r.result (c.results_by_name.ensures i _ _ _ _) c.passing.ensures.effect
