-- What comes next is one thing, so a run is the only one.
use Rattle.std.proofs.Common.{◌≡◌, ℕ, ◌<◌, ◌≤◌, ◌⊎◌, inl, inr, List, [], ◌∷◌, length, refl, sym, ap, ◌∙◌, arith}
use Rattle.i9_model.specs.Run.{Given, Record, Next, Does, Ends, next, IsPastOf, IsRun, Finish}

pub does_is : (r q : Record) → Does r ≡ Does q → r ≡ q
does_is r q e = cc

pub ends_is : (e f : Finish) → Ends e ≡ Ends f → e ≡ f
ends_is e f h = cc

module _ (comes : List Record → Next) where
  -- records of one length are the same
  same_length : (rs qs : List Record) → length rs ≡ length qs → IsPastOf comes rs → IsPastOf comes qs → rs ≡ qs
  same_length [] [] e p q = refl
  same_length [] (y ∷ qs) e p q = absurd (omega arith)
  same_length (x ∷ rs) [] e p q = absurd (omega arith)
  same_length (x ∷ rs) (y ∷ qs) e p q =
      let tails = same_length rs qs (omega arith) p.0 q.0 in
      let heads = does_is x y (sym p.1 ∙ ap comes tails ∙ q.1) in
      ap (λ z. z ∷ rs) heads ∙ ap (λ zs. y ∷ zs) tails

  -- nothing is done behind an end, so no past is longer than a run
  no_longer : (rs qs : List Record) (e : Finish) → IsPastOf comes rs → comes rs ≡ Ends e → IsPastOf comes qs → length qs ≤ length rs
  no_longer rs [] e run ends past = omega arith
  no_longer rs (q ∷ qs) e run ends past =
      let shorter = no_longer rs qs e run ends past.0 in
      elim (split (length qs) (length rs) shorter) [
        | inl lt ↦ omega arith
        | inr same ↦ let tails = same_length qs rs same past.0 run in absurd (clash q e (sym past.1 ∙ ap comes tails ∙ ends))
      ]
    where
      split : (m n : ℕ) → m ≤ n → (m < n) ⊎ (m ≡ n)
      split m n h = grind arith

      clash : (r : Record) (f : Finish) → Does r ≡ Ends f → ⊥
      clash r f h = cc

  pub one_past : (rs qs : List Record) (e f : Finish) → IsPastOf comes rs → comes rs ≡ Ends e → IsPastOf comes qs → comes qs ≡ Ends f → rs ≡ qs
  one_past rs qs e f p pe q qe =
      let one = no_longer rs qs e p pe q in
      let two = no_longer qs rs f q qe p in
      same_length rs qs (omega arith) p q

  pub one_end : (rs qs : List Record) (e f : Finish) → IsPastOf comes rs → comes rs ≡ Ends e → IsPastOf comes qs → comes qs ≡ Ends f → e ≡ f
  one_end rs qs e f p pe q qe = ends_is e f (sym pe ∙ ap comes (one_past rs qs e f p pe q qe) ∙ qe)

pub same_records : (g : Given) (rs qs : List Record) (e f : Finish) → IsRun g rs e → IsRun g qs f → rs ≡ qs
same_records g rs qs e f a b = one_past (next g) rs qs e f a.past a.ends b.past b.ends

pub same_end : (g : Given) (rs qs : List Record) (e f : Finish) → IsRun g rs e → IsRun g qs f → e ≡ f
same_end g rs qs e f a b = one_end (next g) rs qs e f a.past a.ends b.past b.ends
