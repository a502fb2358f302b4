-- An arithmetic fault is raised by an instruction, and is named by its address.
use Rattle.std.proofs.Common.{◌≡◌, ℕ, Option, Some, List, ◌∷◌, sym, ap, ◌∙◌, subst}
use Rattle.i9_isa.specs.declared.inst.Inst.{Inst}
use Rattle.i9_model.specs.declared.faults.TheConstants.{ARITHMETIC}
use Rattle.i9_model.specs.declared.faults.Fault.{Fault}
use Rattle.i9_model.specs.declared.event.Event.{Event}
use Rattle.i9_model.specs.declared.run.End.TheVariants.{Imprecise}
use Rattle.i9_model.specs.State.{State}
use Rattle.i9_model.specs.Run.{Given, Faulted, Record, Does, state_after, next_with, IsPastOfSome, finish}
use Rattle.i9_course.specs.PipelinedRun.{steps, IsPipelinedRun}
use Rattle.i9_course.proofs.Ahead.{imprecise_only}
use Rattle.i9_course.proofs.Orderly.{comes_after}
use Rattle.i9_course.proofs.PlainEnds.{IsNamed, next_named}
use Rattle.i9_course.proofs.PipelinedRuns.{records_of-steps, late_events, run_imprecise}

past_named : (g : Given) (o : Option Event) (rs : List Record) (r : Record) → next_with g o rs ≡ Does r → IsNamed r.before r.kind
past_named g o rs r e =
    let same : r.before ≡ state_after g rs = ap (λ (q : Record). q.before) (comes_after g o rs r e) in
    subst (λ (s : State). IsNamed s r.kind) (sym same) (next_named g o rs r e)

-- so that of the end of a pipelined run is
pub imprecise_named : (g : Given) (rs : List Record) (a : ℕ) → IsPipelinedRun g rs (finish (Imprecise a))
    → (r : Record) × (qs : List Record) × (i : Inst) × (f : Fault) × (rs ≡ r ∷ qs) × (r.kind ≡ Faulted (Some i) f)
    × (f.kind ≡ ARITHMETIC) × (r.before.ip ≡ a)
imprecise_named g rs a run =
    let p = imprecise_only g (steps rs) a (run_imprecise g rs a run) in
    let r = p.0 in
    let qs = p.1 in
    let f = p.3 in
    let is : rs ≡ r ∷ qs = sym (records_of-steps rs) ∙ p.4 in
    let past : IsPastOfSome (next_with g) (r ∷ qs) = subst (IsPastOfSome (next_with g)) is (late_events g rs run.past) in
    let named : IsNamed r.before (Faulted p.2 f) = subst (IsNamed r.before) p.5 (past_named g past.1.0 qs r past.1.1) in
    let there = named p.6 in
    (r, qs, there.0, f, is, p.5 ∙ ap (λ (inst : Option Inst). Faulted inst f) there.1, p.6, sym there.2 ∙ p.7)
