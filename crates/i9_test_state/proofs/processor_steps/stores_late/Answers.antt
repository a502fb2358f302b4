use Rattle.std.proofs.Common.{◌≡◌, ℕ, ◌%◌, false, List, [], sym, ap, subst}
use Rattle.std.proofs.lemmas.Bool.{false≢true}
use Rattle.i9_model.specs.State.{State}
use Rattle.i9_model.specs.Step.{Action, going}
use Rattle.i9_model.specs.Writes.{last_put}
use Rattle.i9_regs.specs.Covered.{StartsAnew, IsCovered}
use Rattle.i9_processor.specs.declared.effect.Effect.{Effect}
use Rattle.i9_processor.specs.Effect.{action_in}
use Rattle.i9_processor.specs.State.{state_of}
use Rattle.i9_test_state.proofs.processor_steps.stores_late.Goals as goal

-- no register is set, and the controls stay
none_covered : (s : State) (next : ℕ) (a : Action) → a.sets ≡ [] → a.ac ≡ s.ac → a.control ≡ (going s next).control
    → IsCovered 0 s a
unfolding last_put
none_covered s next a sets ac control = record {
  sets = λ r few clear. ap (λ (ps : List (ℕ × ℕ)). last_put ps r) sets;
  code = λ clear. ap (λ (n : ℕ). n % 8) ac;
  start = λ starts. absurd (subst StartsAnew control starts);
}

pub apply-requires-clause-covered : goal.apply-requires-clause-covered
apply-requires-clause-covered c =
    let s = state_of c.args.p.now in
    let e = c.going-effect.result in
    let same = c.going-effect.ensures.effect.same in
    let f : Effect = record e {
      address = c.args.a;
      bytes = c.push.new.self;
      plain = false;
      rest = λ is. absurd (false≢true is);
      marked = λ some. absurd (some c.going-effect.ensures.keeps.stale);
    } in
    let here : IsCovered 0 s (action_in s f) = none_covered s 4888 (action_in s f) (ap (λ (a : Action). a.sets) same)
    (ap (λ (a : Action). a.ac) same) (ap (λ (a : Action). a.control) same) in
    subst (λ (t : State). IsCovered 0 t (action_in t f)) (sym c.reserve.ensures.keeps.seen.state) here
