-- Lines in two parts; and where a relation on lines leads to one state and only from lines without fault, a text has
-- one end or one first fault. No function from lines to states is needed.
use Rattle.std.proofs.Common.{◌≡◌, ℕ, suc, ◌+◌, List, [], ◌∷◌, ◌++◌, length, Option, Some, None, sym, ap, subst, ◌∙◌, arith, inl, inr, ◌⊎◌, add-zero, zero-add}
use Rattle.i9_text.specs.FirstFault.{SaysAll, IsRefused, at_line, at_end}

module _ {S : Type 0} (Says : S → List ℕ → S → Type 0) where
  -- one part after the other
  pub SaysAll-append : (r s t : S) (front back : List (List ℕ)) → SaysAll Says r front s → SaysAll Says s back t → SaysAll Says r (front ++ back) t
  SaysAll-append r s t [] back x y = subst (λ (q : S). SaysAll Says q back t) (sym x) y
  SaysAll-append r s t (line ∷ front) back x y = (x.0, x.1, SaysAll-append x.0 s t front back x.2 y)

module _ {S : Type 0} (Says : S → List ℕ → S → Type 0) (fault : S → List ℕ → Option ℕ)
    (unique : (s : S) (line : List ℕ) (t u : S) → Says s line t → Says s line u → t ≡ u) (sound : (s : S) (line : List ℕ) (t : S) → Says s line t → fault s line ≡ None) where
  -- the first fault of lines, by recursion
  Refused : ℕ → S → List (List ℕ) → ℕ × ℕ → Type 0
  Refused n s [] f = ⊥
  Refused n s (line ∷ lines) f = ((k : ℕ) × (fault s line ≡ Some k) × (f ≡ (n + 1, k))) ⊎ ((next : S) × Says s line next × Refused (n + 1) next lines f)

  refused_after : (front : List (List ℕ)) (line : List ℕ) (back : List (List ℕ)) (n k : ℕ) (r s : S) → SaysAll Says r front s → fault s line ≡ Some k → Refused n r (front ++ line ∷ back) (n + length front + 1, k)
  unfolding Refused
  refused_after [] line back n k r s all wrong = inl (k, rw (← all) at wrong, ap (λ m. (m + 1, k)) (add-zero n))
  refused_after (first ∷ front) line back n k r s all wrong =
      let e : n + 1 + length front + 1 ≡ n + suc (length front) + 1 = omega arith in
      inr (all.0, all.1, subst (λ m. Refused (n + 1) all.0 (front ++ line ∷ back) (m, k)) e (refused_after front line back (n + 1) k all.0 s all.2 wrong))

  refused_of : (start : S) (lines : List (List ℕ)) (f : ℕ × ℕ) → IsRefused Says fault (λ _. None) start lines f → Refused 0 start lines f
  refused_of start _ _ (at_line front line back s k all wrong) = subst (λ m. Refused 0 start (front ++ line ∷ back) (m + 1, k)) (zero-add (length front)) (refused_after front line back 0 k start s all wrong)
  refused_of start _ _ (at_end lines s k all wrong) = absurd (cc)

  once_by : (n : ℕ) (s : S) (lines : List (List ℕ)) (f g : ℕ × ℕ) → Refused n s lines f → Refused n s lines g → f ≡ g
  unfolding Refused
  once_by n s [] f g x y = absurd x
  once_by n s (line ∷ lines) f g (inl x) (inl y) = cc (x.1, x.2, y.1, y.2)
  once_by n s (line ∷ lines) f g (inl x) (inr y) = absurd (cc (sym x.1 ∙ sound s line y.0 y.1))
  once_by n s (line ∷ lines) f g (inr x) (inl y) = absurd (cc (sym y.1 ∙ sound s line x.0 x.1))
  once_by n s (line ∷ lines) f g (inr x) (inr y) =
      once_by (n + 1) x.0 lines f g x.2 (subst (λ t. Refused (n + 1) t lines g) (unique s line y.0 x.0 y.1 x.1) y.2)

  never_by : (n : ℕ) (s t : S) (lines : List (List ℕ)) (f : ℕ × ℕ) → Refused n s lines f → SaysAll Says s lines t → ⊥
  unfolding Refused
  never_by n s t [] f x all = x
  never_by n s t (line ∷ lines) f (inl x) all = absurd (cc (sym x.1 ∙ sound s line all.0 all.1))
  never_by n s t (line ∷ lines) f (inr x) all = never_by (n + 1) x.0 t lines f x.2 (subst (λ r. SaysAll Says r lines t) (unique s line all.0 x.0 all.1 x.1) all.2)

  -- lines lead to one state
  pub all_once : (s t u : S) (lines : List (List ℕ)) → SaysAll Says s lines t → SaysAll Says s lines u → t ≡ u
  all_once s t u [] x y = sym x ∙ y
  all_once s t u (line ∷ lines) x y = all_once x.0 t u lines x.2 (subst (λ r. SaysAll Says r lines u) (unique s line y.0 x.0 y.1 x.1) y.2)

  -- they have one first fault
  pub refused_once : (start : S) (lines : List (List ℕ)) (f g : ℕ × ℕ) → IsRefused Says fault (λ _. None) start lines f → IsRefused Says fault (λ _. None) start lines g → f ≡ g
  refused_once start lines f g x y = once_by 0 start lines f g (refused_of start lines f x) (refused_of start lines g y)

  -- and not both
  pub never_both : (start t : S) (lines : List (List ℕ)) (f : ℕ × ℕ) → IsRefused Says fault (λ _. None) start lines f → SaysAll Says start lines t → ⊥
  never_both start t lines f x all = never_by 0 start t lines f (refused_of start lines f x) all
