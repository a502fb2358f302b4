use Rattle.std.proofs.Common.{◌≡◌, ℕ, Ok, sym, subst}
use Rattle.i9_model.specs.declared.calls.Sys.{Sys}
use Rattle.i9_model.specs.Operands.{value}
use Rattle.i9_model.specs.Step.{pushing, following, system_call}
use Rattle.i9_processor.specs.Effect.{IsEffect}
use Rattle.i9_processor.specs.Entries.{calls_in}
use Rattle.i9_processor.specs.State.{state_of}
use Rattle.i9_plan.proofs.CallPlans.{calls_ok}
use Rattle.i9_plan.proofs.Marking.{with_pc}
use Rattle.i9_plan.proofs.calls.plan_calls.Goals as goal

pub returns : goal.returns
returns c =
    let i = c.args.i.now in
    let s = state_of c.args.p.now in
    let e = c.pushing-effect.result in
    let sys = c.in-Ok.sys in
    let plan = subst (λ (n : ℕ). Ok sys ≡ calls_in s n) c.value.ensures c.in-Ok.ensures.sys in
    let ok = calls_ok (value s i.a) _ (system_call i s) sys c.requires.number (sym plan) in
    let pushes = subst (λ (back : ℕ). IsEffect s (pushing s sys.push back sys.target) e) c.following.ensures c.pushing-effect.ensures.effect in
    let controls = with_pc s (pushing s sys.push (following i s) sys.target) e sys.pc pushes in
    let calls = subst (λ (y : Sys). IsEffect s (record (pushing s y.push (following i s) y.target) { pc = y.pc }) (record e { pc = sys.pc })) ok.1 controls in
    (ok.0, record { same = calls.same; registers = calls.registers; posts = calls.posts; changes = calls.changes; moves = calls.moves; controls = calls.controls })
