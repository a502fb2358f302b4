-- Where a step function `after` and a test `fault` answer the relation `Says` on lines, both ways, reading up to the
-- first fault answers the relations on texts, both ways.
use Rattle.std.proofs.Common.{◌≡◌, ℕ, suc, ◌+◌, List, [], ◌∷◌, ◌++◌, length, Option, Some, None, Result, Ok, Err, refl, sym, ap, subst, ◌∙◌, arith, inl, inr, ◌⊎◌, add-zero, zero-add, append_assoc, length-append}
use Rattle.std.proofs.lemmas.List.{append-nil}
use Rattle.i9_text.specs.FirstFault.{or_fault, SaysAll, IsRefused, at_line, at_end}
use Rattle.i9_text.proofs.FirstFaultOnce.{SaysAll-append}

module _ {S : Type 0} (fault : S → List ℕ → Option ℕ) (after : S → List ℕ → S) (missing : S → Option ℕ) where
  -- what reading these lines gives after n lines: the state that they lead to, or the first fault
  unfoldable pub read_from : ℕ → S → List (List ℕ) → Result S (ℕ × ℕ)
  read_from n s [] = or_fault (missing s) n (Ok s)
  read_from n s (line ∷ lines) = or_fault (fault s line) (n + 1) (read_from (n + 1) (after s line) lines)

option_cases : (o : Option ℕ) → (o ≡ None) ⊎ ((k : ℕ) × (o ≡ Some k))
option_cases None = inl refl
option_cases (Some k) = inr (k, refl)

module _ {S : Type 0} (Says : S → List ℕ → S → Type 0) (fault : S → List ℕ → Option ℕ) (after : S → List ℕ → S) (missing : S → Option ℕ) (start : S)
    (says_line : (s : S) (line : List ℕ) → fault s line ≡ None → Says s line (after s line)) (line_says : (s : S) (line : List ℕ) (t : S) → Says s line t → (fault s line ≡ None) × (after s line ≡ t)) where
  no_fault : (o : Option ℕ) (n : ℕ) (read : Result S (ℕ × ℕ)) (t : S) → or_fault o n read ≡ Ok t → (o ≡ None) × (read ≡ Ok t)
  no_fault None n read t e = (refl, e)
  no_fault (Some k) n read t e = absurd cc

  -- what is read is what the lines say
  pub SaysAll-read : (n : ℕ) (s t : S) (lines : List (List ℕ)) → read_from fault after missing n s lines ≡ Ok t → SaysAll Says s lines t × (missing t ≡ None)
  unfolding read_from
  SaysAll-read n s t [] e =
      let a = no_fault (missing s) n (Ok s) t e in
      let same : s ≡ t = cc in
      (same, subst (λ (x : S). missing x ≡ None) same a.0)
  SaysAll-read n s t (line ∷ lines) e =
      let a = no_fault (fault s line) (n + 1) (read_from fault after missing (n + 1) (after s line) lines) t e in
      let b = SaysAll-read (n + 1) (after s line) t lines a.1 in
      ((after s line, says_line s line a.0, b.0), b.1)

  -- what the lines say is read
  pub read_from-says : (n : ℕ) (s t : S) (lines : List (List ℕ)) → SaysAll Says s lines t → missing t ≡ None → read_from fault after missing n s lines ≡ Ok t
  unfolding read_from
  read_from-says n s t [] h ended = rw (h, ended) refl
  read_from-says n s t (line ∷ lines) h ended =
      let a = line_says s line h.0 h.1 in
      rw (a.0, a.1) (read_from-says (n + 1) h.0 t lines h.2 ended)

  -- lines without fault in front
  read_from-front : (n : ℕ) (s t : S) (front back : List (List ℕ)) → SaysAll Says s front t → read_from fault after missing n s (front ++ back) ≡ read_from fault after missing (n + length front) t back
  unfolding read_from
  read_from-front n s t [] back h = rw (h, add-zero) refl
  read_from-front n s t (line ∷ front) back h =
      let a = line_says s line h.0 h.1 in
      let e : n + 1 + length front ≡ n + suc (length front) = omega arith in
      rw (a.0, a.1) (read_from-front (n + 1) h.0 t front back h.2 ∙ ap (λ (k : ℕ). read_from fault after missing k t back) e)

  -- the first fault is what reading gives
  pub read_from-refused : (lines : List (List ℕ)) (f : ℕ × ℕ) → IsRefused Says fault missing start lines f → read_from fault after missing 0 start lines ≡ Err f
  unfolding read_from
  read_from-refused lines f (at_line front line back s k before wrong) =
      let e : 0 + length front + 1 ≡ length front + 1 = omega arith in
      read_from-front 0 start s front (line ∷ back) before ∙ rw (wrong, e) refl
  read_from-refused lines f (at_end all s k before wrong) =
      ap (read_from fault after missing 0 start) (sym (append-nil all)) ∙ read_from-front 0 start s all [] before ∙ rw (wrong, zero-add) refl

  -- what reading refuses after lines without fault
  refused_from : (front : List (List ℕ)) (n : ℕ) (s : S) (lines : List (List ℕ)) (f : ℕ × ℕ) → n ≡ length front → SaysAll Says start front s → read_from fault after missing n s lines ≡ Err f → IsRefused Says fault missing start (front ++ lines) f
  unfolding read_from
  refused_from front n s [] f len before e =
      elim (option_cases (missing s)) [
        | inl fine ↦ absurd (cc (rw fine at e))
        | inr wrong ↦
            let same : (n, wrong.0) ≡ f = cc (rw wrong.1 at e) in
            let here : IsRefused Says fault missing start front f = subst (λ (x : ℕ × ℕ). IsRefused Says fault missing start front x) (ap (λ (k : ℕ). (k, wrong.0)) (sym len) ∙ same) (at_end front s wrong.0 before wrong.1) in
            subst (λ (x : List (List ℕ)). IsRefused Says fault missing start x f) (sym (append-nil front)) here
      ]
  refused_from front n s (line ∷ lines) f len before e =
      elim (option_cases (fault s line)) [
        | inl fine ↦
            let more = SaysAll-append Says start s (after s line) front (line ∷ []) before (after s line, says_line s line fine, refl) in
            let rest = refused_from (front ++ line ∷ []) (n + 1) (after s line) lines f (omega (arith, length-append front (line ∷ []))) more (rw fine at e) in
            subst (λ (x : List (List ℕ)). IsRefused Says fault missing start x f) (append_assoc front (line ∷ []) lines) rest
        | inr wrong ↦
            let same : (n + 1, wrong.0) ≡ f = cc (rw wrong.1 at e) in
            subst (λ (x : ℕ × ℕ). IsRefused Says fault missing start (front ++ line ∷ lines) x) (ap (λ (k : ℕ). (k + 1, wrong.0)) (sym len) ∙ same) (at_line front line lines s wrong.0 before wrong.1)
      ]

  -- what reading refuses is the first fault
  pub refused-read : (lines : List (List ℕ)) (f : ℕ × ℕ) → read_from fault after missing 0 start lines ≡ Err f → IsRefused Says fault missing start lines f
  refused-read lines f e = refused_from [] 0 start lines f refl refl e
