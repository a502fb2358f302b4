use Rattle.std.proofs.Common.{ℕ, Ok, refl, subst}
use Rattle.i9_isa.specs.declared.op.Op.TheVariants.{Atadd, Atmod, Call, Callx, Calls, Ret, Flushreg, Modac, Modtc, Modpc, Sdma, Sysctl}
use Rattle.i9_model.specs.Step.{call_action}
use Rattle.i9_model.specs.Access.{SavesFrame}
use Rattle.i9_processor.specs.State.{state_of}
use Rattle.i9_plan.specs.Planned.{IsPlanFor}
use Rattle.i9_plan.proofs.Faulting.{calls_number, sdma_channel, sysctl_message}
use Rattle.i9_plan.proofs.Outcomes.{barrier_nothing, barrier_kind, other_plan, by_name}
use Rattle.i9_plan.proofs.barriers.plan_barrier.Goals as goal

pub plan_calls-requires-clause-number : goal.plan_calls-requires-clause-number
plan_calls-requires-clause-number c = calls_number c.args.i.now _ _ _ _ _ c.in-Calls.is c.requires.calm

pub plan_sdma-requires : goal.plan_sdma-requires
plan_sdma-requires c = sdma_channel c.args.i.now _ _ _ _ _ c.in-Sdma.is c.requires.calm

pub plan_message-requires-clause-message : goal.plan_message-requires-clause-message
plan_message-requires-clause-message c = sysctl_message c.args.i.now _ _ _ _ _ c.in-Sysctl.is c.requires.calm

pub returns-in-Atadd : goal.returns-in-Atadd
returns-in-Atadd c = by_name Atadd _ _ _ c.in-Atadd.is c.plan_atadd.ensures

pub returns-in-Atmod : goal.returns-in-Atmod
returns-in-Atmod c = by_name Atmod _ _ _ c.in-Atmod.is c.plan_atmod.ensures

pub returns-in-Calls : goal.returns-in-Calls
returns-in-Calls c = by_name Calls _ _ _ c.in-Calls.is c.plan_calls.ensures

pub returns-in-Ret : goal.returns-in-Ret
returns-in-Ret c = by_name Ret _ _ _ c.in-Ret.is c.plan_return.ensures

pub returns-in-Sysctl : goal.returns-in-Sysctl
returns-in-Sysctl c = by_name Sysctl _ _ _ c.in-Sysctl.is c.plan_message.ensures

pub returns-in-Sdma : goal.returns-in-Sdma
returns-in-Sdma c = by_name Sdma _ _ (Ok c.plan_sdma.result) c.in-Sdma.is (refl, c.plan_sdma.ensures)

pub returns-in-Modac : goal.returns-in-Modac
returns-in-Modac c = by_name Modac _ _ (Ok c.plan_modac.result) c.in-Modac.is (refl, c.plan_modac.ensures)

pub returns-in-Modtc : goal.returns-in-Modtc
returns-in-Modtc c = by_name Modtc _ _ (Ok c.plan_modtc.result) c.in-Modtc.is (refl, c.plan_modtc.ensures)

pub returns-in-Modpc : goal.returns-in-Modpc
returns-in-Modpc c = by_name Modpc _ _ (Ok c.plan_modpc.result) c.in-Modpc.is (refl, c.plan_modpc.ensures)

pub returns-in-Flushreg : goal.returns-in-Flushreg
returns-in-Flushreg c = by_name Flushreg _ _ (Ok c.flushing.result) c.in-Flushreg.is (refl, c.flushing.ensures)

pub returns-in-Call : goal.returns-in-Call
returns-in-Call c =
    let i = c.args.i.now in
    let s = state_of c.args.p.now in
    by_name Call i s _ c.in-Call.is (subst (λ (a : ℕ). IsPlanFor s SavesFrame (call_action i s a) c.plan_call.result) c.target.ensures c.plan_call.ensures)

pub returns-in-Callx : goal.returns-in-Callx
returns-in-Callx c =
    let i = c.args.i.now in
    let s = state_of c.args.p.now in
    by_name Callx i s _ c.in-Callx.is (subst (λ (a : ℕ). IsPlanFor s SavesFrame (call_action i s a) c.plan_call-in-Callx.result) c.address.ensures c.plan_call-in-Callx.ensures)

pub returns-in_default : goal.returns-in_default
returns-in_default c =
    let i = c.args.i.now in
    let s = state_of c.args.p.now in
    let b = c.requires.barrier in
    let o = c.in_default in
    let nothing = barrier_nothing i.op i s b (o.not-Atadd, o.not-Atmod, o.not-Call, o.not-Callx, o.not-Calls, o.not-Ret, o.not-Flushreg, o.not-Modac, o.not-Modtc, o.not-Modpc, o.not-Sdma, o.not-Sysctl) in
    other_plan i s c.passing.result nothing (barrier_kind i.op b).1 (c.results_by_name.ensures i _ _ _ _) c.passing.ensures.effect
