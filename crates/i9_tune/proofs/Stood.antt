-- An instruction stands at the instruction address and is done exactly where it is fetched without a hazard, is what the
-- words there say, and misuses, raises and meets nothing.
use Rattle.std.proofs.Common.{◌≡◌, Bool, true, false, cond, Option, Some, None, Result, Ok, Err, refl, ap, ◌∙◌, subst}
use Rattle.i9_isa.specs.declared.inst.Inst.{Inst}
use Rattle.i9_isa.specs.declared.inst.BadWord.{BadWord}
use Rattle.i9_isa.specs.Words.{decoded}
use Rattle.i9_model.specs.State.{State}
use Rattle.i9_model.specs.Step.{first_word, next_word}
use Rattle.i9_model.specs.Access.{hazard_of, fetch_hazard}
use Rattle.i9_model.specs.Stale.{misuses}
use Rattle.i9_model.specs.Standing.{Standing, Meets, Runs, raised_in, later_fault, by_access, by_later, by_raised, by_word, by_fetch, stands_at}

-- an instruction that misuses, raises and meets nothing
pub record IsCalm (s : State) (i : Inst) : Type 0 where
  pub proper : misuses i s ≡ false
  pub raised : raised_in i s ≡ None
  pub later : later_fault i s ≡ None
  pub hazard : hazard_of i s ≡ None

pub record IsStood (s : State) (i : Inst) : Type 0 where
  pub fetch : fetch_hazard s ≡ None
  pub word : decoded (first_word s) (next_word s) ≡ Ok i
  pub calm : IsCalm s i

-- where what stands there is done, there is none of what something else stands there for
none_of : {A : Type 0} (stands : Option A → Standing) (i : Inst) (o : Option A) → ((a : A) → stands (Some a) ≡ Runs i → ⊥) → stands o ≡ Runs i → (o ≡ None) × (stands None ≡ Runs i)
none_of stands i (Some a) not_done is = absurd (not_done a is)
none_of stands i None not_done is = (refl, is)

proper_calm : (s : State) (j i : Inst) (b : Bool) → misuses j s ≡ b → cond b (Meets s.ip) (by_raised j s (raised_in j s)) ≡ Runs i → IsCalm s j × (j ≡ i)
proper_calm s j i true m is = absurd (cc is)
proper_calm s j i false m is =
    let raised = none_of (by_raised j s) i (raised_in j s) (λ n e. cc e) is in
    let later = none_of (by_later j s) i (later_fault j s) (λ n e. cc e) raised.1 in
    let hazard = none_of (by_access j) i (hazard_of j s) (λ a e. cc e) later.1 in
    let same = hazard.1 in
    (record { proper = m; raised = raised.0; later = later.0; hazard = hazard.0 }, cc same)

word_stood : (s : State) (i : Inst) (r : Result Inst BadWord) → fetch_hazard s ≡ None → decoded (first_word s) (next_word s) ≡ r → by_word s r ≡ Runs i → IsStood s i
word_stood s i (Err b) f e is = absurd (cc is)
word_stood s i (Ok j) f e is =
    let c = proper_calm s j i (misuses j s) refl is in
    record { fetch = f; word = e ∙ ap (λ (x : Inst). Ok x) c.1; calm = subst (IsCalm s) c.1 c.0 }

pub stood : (s : State) (i : Inst) → stands_at s ≡ Runs i → IsStood s i
unfolding stands_at
stood s i is =
    let fetch = none_of (by_fetch s) i (fetch_hazard s) (λ a e. cc e) is in
    word_stood s i (decoded (first_word s) (next_word s)) fetch.0 refl fetch.1

pub stands_there : (s : State) (i : Inst) → IsStood s i → stands_at s ≡ Runs i
unfolding stands_at
stands_there s i h = rw (h.fetch, h.word, h.calm.proper, h.calm.raised, h.calm.later, h.calm.hazard) refl
