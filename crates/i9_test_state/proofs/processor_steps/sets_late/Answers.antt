use Rattle.std.proofs.Common.{◌≡◌, ℕ, ◌%◌, Bool, true, false, cond, List, [], ◌∷◌, ◌++◌, None, Some, eqb, refl, sym, ap, ◌∙◌, subst, arith}
use Rattle.std.specs.Int.{bit_at}
use Rattle.std.proofs.lemmas.Bool.Decides.{nat_tests}
use Rattle.i9_model.specs.Controls.{KeepsControls}
use Rattle.i9_model.specs.State.{State}
use Rattle.i9_model.specs.Step.{Action}
use Rattle.i9_model.specs.Writes.{last_put, pairs_at}
use Rattle.i9_regs.specs.Covered.{StartsAnew, IsCovered}
use Rattle.i9_processor.specs.Effect.{action_in}
use Rattle.i9_processor.specs.State.{state_of}
use Rattle.i9_test_state.proofs.processor_steps.sets_late.Goals as goal

-- r4 alone is set
beside_by : (r v : ℕ) (b : Bool) → eqb r 4 ≡ b → bit_at 16 r ≡ 0 → cond b (Some v) None ≡ None
beside_by r v true is clear =
    let same : r ≡ 4 = grind (arith, nat_tests, is) in
    let one : bit_at 16 4 ≡ 0 = ap (bit_at 16) (sym same) ∙ clear in
    absurd (omega (arith, one))
beside_by r v false is clear = refl

one_covered : (s : State) (a : Action) (v : ℕ) → a.sets ≡ (4, v) ∷ [] → a.ac ≡ s.ac → a.control ≡ KeepsControls
    → IsCovered 16 s a
unfolding last_put
one_covered s a v sets ac control = record {
  sets = λ r few clear. ap (λ (ps : List (ℕ × ℕ)). last_put ps r) sets ∙ beside_by r v (eqb r 4) refl clear;
  code = λ clear. ap (λ (n : ℕ). n % 8) ac;
  start = λ starts. absurd (subst StartsAnew control starts);
}

pub apply-requires-clause-covered : goal.apply-requires-clause-covered
apply-requires-clause-covered c =
    let s = state_of c.args.p.now in
    let e = c.setting-effect.result in
    let same = c.setting-effect.ensures.effect.same in
    let items : c.push.new.self.items ≡ c.args.value ∷ [] =
    c.push.ensures.items ∙ ap (λ (vs : List ℕ). vs ++ c.args.value ∷ []) c.new-values.ensures in
    let sets : (action_in s e).sets ≡ (4, c.args.value) ∷ [] =
    ap (λ (a : Action). a.sets) same ∙ ap (λ (vs : List ℕ). pairs_at (λ r. r) 4 vs) items in
    let here : IsCovered 16 s (action_in s e) = one_covered s (action_in s e) c.args.value sets
    (ap (λ (a : Action). a.ac) same) (ap (λ (a : Action). a.control) same) in
    subst (λ (t : State). IsCovered 16 t (action_in t e)) (sym c.reserve.ensures.keeps.seen.state) here
