use Rattle.std.proofs.Common.{ℕ, false, sym, subst}
use Rattle.i9_model.specs.declared.layout.TheConstants.{FP, SP, LOCAL_RETURN}
use Rattle.i9_model.specs.declared.push.Push.{Push}
use Rattle.i9_model.specs.Frames.{pushed}
use Rattle.i9_model.specs.Stale.{area_hazard}
use Rattle.i9_model.specs.Step.{pushing, following}
use Rattle.i9_processor.specs.Effect.{IsEffect}
use Rattle.i9_processor.specs.State.{state_of}
use Rattle.i9_plan.proofs.CallPlans.{push_free}
use Rattle.i9_plan.proofs.calls.plan_call.Goals as goal

pub returns : goal.returns
returns c =
    let i = c.args.i.now in
    let s = state_of c.args.p.now in
    let e = c.pushing.result in
    let free = push_free (area_hazard s false) (pushed (s.regs FP) (s.regs SP) 0 LOCAL_RETURN) c.in_ok-push.push (sym c.in_ok-push.ensures.push) in (
      free.0,
      subst (λ (to : ℕ). IsEffect s (pushing s (pushed (s.regs FP) (s.regs SP) 0 LOCAL_RETURN) (following i s) to) e) c.aligned.ensures
          (subst (λ (back : ℕ). IsEffect s (pushing s (pushed (s.regs FP) (s.regs SP) 0 LOCAL_RETURN) back c.aligned.result) e) c.following.ensures
          (subst (λ (push : Push). IsEffect s (pushing s push c.following.result c.aligned.result) e) (sym free.1) c.pushing.ensures.effect)),
    )
