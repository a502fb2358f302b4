use Rattle.std.proofs.Common.{Bool, ap, ◌∙◌, inl, inr}
use Rattle.std.specs.Prelude.{◌||◌}
use Rattle.i9_model.specs.Stale.{is_marked, registers_of}
use Rattle.i9_processor.specs.State.{state_of}
use Rattle.i9_plan.proofs.MarkUses.{unlisted, atomic_misused, lda_misuses, bx_misuses, balx_misuses, callx_misuses, atadd_misuses, atmod_misuses, ret_misuses, modpc_misuses, sysctl_misuses, other_misuses}
use Rattle.i9_plan.proofs.ReadMarks.{other_plain}
use Rattle.i9_plan.proofs.misuses.named_misuses.Goals as goal

pub returns-in-Lda : goal.returns-in-Lda
returns-in-Lda c = c.lda_misuses.ensures ∙ lda_misuses c.args.i.now (state_of c.args.p.now) c.in-Lda.is

pub returns-in-Bx : goal.returns-in-Bx
returns-in-Bx c =
    let i = c.args.i.now in
    let s = state_of c.args.p.now in
    c.address_marked.ensures ∙ elim c.in-Bx.is [
      | inl bx ↦ bx_misuses i s bx
      | inr others ↦ elim others [
        | inl balx ↦ balx_misuses i s balx
        | inr callx ↦ callx_misuses i s callx
      ]
    ]

pub returns-in-Atadd : goal.returns-in-Atadd
returns-in-Atadd c =
    let i = c.args.i.now in
    let s = state_of c.args.p.now in
    c.atomic_misuses.ensures
    ∙ ap (λ (b : Bool). is_marked s (registers_of i.a 1) || atomic_misused i s b) c.source_marked.ensures
    ∙ atadd_misuses i s c.in-Atadd.is

pub returns-in-Atmod : goal.returns-in-Atmod
returns-in-Atmod c =
    let i = c.args.i.now in
    let s = state_of c.args.p.now in
    c.atomic_misuses-in-Atmod.ensures
    ∙ ap (λ (b : Bool). is_marked s (registers_of i.a 1) || atomic_misused i s b) c.later_marked.ensures
    ∙ atmod_misuses i s c.in-Atmod.is

pub returns-in-Ret : goal.returns-in-Ret
returns-in-Ret c = c.return_misuses.ensures ∙ ret_misuses c.args.i.now (state_of c.args.p.now) c.in-Ret.is

pub returns-in-Modpc : goal.returns-in-Modpc
returns-in-Modpc c = c.later_marked-in-Modpc.ensures ∙ modpc_misuses c.args.i.now (state_of c.args.p.now) c.requires.valid c.in-Modpc.is

pub returns-in-Sysctl : goal.returns-in-Sysctl
returns-in-Sysctl c = c.sysctl_misuses.ensures ∙ sysctl_misuses c.args.i.now (state_of c.args.p.now) c.in-Sysctl.is

pub sources_misused-requires-clause-plain : goal.sources_misused-requires-clause-plain
sources_misused-requires-clause-plain c =
    let o = c.in_default in
    other_plain c.args.i.now c.requires.valid c.requires.still (unlisted c.args.i.now.op o.not-Lda o.not-Atadd o.not-Atmod o.not-Bx o.not-Balx o.not-Callx o.not-Ret o.not-Modpc o.not-Sysctl)

pub returns-in_default : goal.returns-in_default
returns-in_default c =
    let o = c.in_default in
    c.sources_misused.ensures
    ∙ other_misuses c.args.i.now (state_of c.args.p.now) c.requires.still (unlisted c.args.i.now.op o.not-Lda o.not-Atadd o.not-Atmod o.not-Bx o.not-Balx o.not-Callx o.not-Ret o.not-Modpc o.not-Sysctl)
