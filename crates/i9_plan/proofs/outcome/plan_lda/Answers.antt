use Rattle.std.proofs.Common.{ℕ, Bool, ◌∷◌, [], refl, ap, ◌∙◌, subst}
use Rattle.i9_model.specs.Step.{answering}
use Rattle.i9_model.specs.Stale.{is_marked, address_registers}
use Rattle.i9_processor.specs.Effect.{IsEffect}
use Rattle.i9_processor.specs.State.{state_of}
use Rattle.i9_watch.specs.Bits.{bits_of}
use Rattle.i9_plan.proofs.MarkLists.{one_bit}
use Rattle.i9_plan.proofs.Marking.{values_marked}
use Rattle.i9_plan.proofs.outcome.plan_lda.Goals as goal

pub returns : goal.returns
returns c =
    let i = c.args.i.now in
    let s = state_of c.args.p.now in
    let answer = subst (λ (v : ℕ). IsEffect s (answering i s v) c.answering-effect.result) c.address.ensures c.answering-effect.ensures.effect in
    let bits = ap (λ (m : ℕ). bits_of m 1) c.from.ensures ∙ one_bit c.address_marked.result ∙ ap (λ (b : Bool). b ∷ []) c.address_marked.ensures in
    let marked = values_marked s (answering i s _) c.answering-effect.result i.c (_ ∷ []) (is_marked s (address_registers i.ea) ∷ []) c.from.result answer refl refl bits in
    record { same = marked.same; registers = marked.registers; posts = marked.posts; changes = marked.changes; moves = marked.moves; controls = marked.controls }
