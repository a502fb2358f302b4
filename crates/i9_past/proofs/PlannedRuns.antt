-- A run reaches the first events of its plan in order, and is also the run of these events alone; and records that come
-- next with some events are those of a run whose plan is these events.
use Rattle.std.proofs.Common.{◌≡◌, ℕ, ◌+◌, ◌≤◌, Bool, true, false, cond, eqb, List, [], ◌∷◌, ◌++◌, length, Option, Some, None, refl, sym, ap, subst, ◌∙◌, arith, inl, inr, ◌⊎◌, append_assoc, length-append}
use Rattle.std.specs.List.{slice_get}
use Rattle.std.proofs.lemmas.Bool.{eqb-true}
use Rattle.std.proofs.lemmas.List.{append-nil}
use Rattle.std.proofs.lemmas.Option.{slice_get_past}
use Rattle.i9_model.specs.declared.event.Event.{Event}
use Rattle.i9_model.specs.declared.event.When.{When}
use Rattle.i9_model.specs.declared.event.Timed.{Timed}
use Rattle.i9_model.specs.ScheduleText.{timed_at, has_come_at, event_at, standing}
use Rattle.i9_model.specs.Run.{Record, Finish, Does, Ends, IsPastOfSome, reached_last}
use Rattle.i9_past.proofs.Unique.{does_is, ends_is}
use Rattle.i9_model.specs.PlannedRuns.{Stepping, Tally, IsHeedful, IsCounted, next_by, reached_with, IsPastBy}

at_seam : (xs ys : List Timed) → slice_get (xs ++ ys) (length xs) ≡ slice_get ys 0
at_seam [] ys = refl
at_seam (x ∷ xs) ys = at_seam xs ys

-- an event whose time has come after so many instructions is timed at them
stands : (k : ℕ) (w : When) (x e : Event) → cond (has_come_at k w) (Some x) None ≡ Some e → record { when = w; event = x } ≡ timed_at k e
stands k w x e h = grind arith

-- the event that stands there is the first of those that are left
first_left : (k : ℕ) (rest : List Timed) (e : Event) → event_at k (slice_get rest 0) ≡ Some e → (more : List Timed) × (rest ≡ timed_at k e ∷ more)
first_left k [] e h = absurd cc
first_left k (t ∷ ts) e h = (ts, ap (λ (x : Timed). x ∷ ts) (stands k t.when t.event e h))

same_count : (n : ℕ) → eqb n n ≡ true
same_count n = grind (arith)

module _ (next : Stepping) (tally : Tally) (heeds : IsHeedful next tally) where
  -- a record reaches nothing, or the event that stands there
  grown : (rs : List Record) (r : Record) (o : Option Event) → next o rs ≡ Does r
      → ((tally.reached (r ∷ rs) ≡ tally.reached rs) × (next None rs ≡ Does r)) ⊎ ((e : Event) × (o ≡ Some e) × (tally.reached (r ∷ rs) ≡ tally.reached rs ++ timed_at (tally.count rs) e ∷ []))
  grown rs r None h = inl (heeds.quiet rs r h, h)
  grown rs r (Some e) h = elim (heeds.heard rs e) [
    | inl same ↦ let n = sym same ∙ h in inl (heeds.quiet rs r n, n)
    | inr (inl found) ↦
        let q = does_is found.0 r (sym found.1 ∙ h) in
        inr (e, refl, subst (λ (x : Record). tally.reached (x ∷ rs) ≡ tally.reached rs ++ timed_at (tally.count rs) e ∷ []) q found.2)
    | inr (inr ends) ↦ absurd (cc (sym ends.1 ∙ h))
  ]

  -- the events that were reached are the first of the plan
  pub reached_front : (plan : List Timed) (rs : List Record) → IsPastBy next tally plan rs → (rest : List Timed) × (tally.reached rs ++ rest ≡ plan)
  reached_front plan [] h = (plan, rw heeds.start refl)
  reached_front plan (r ∷ rs) h =
      let f = reached_front plan rs h.0 in
      let here : slice_get plan (length (tally.reached rs)) ≡ slice_get f.0 0 = ap (λ (p : List Timed). slice_get p (length (tally.reached rs))) (sym f.1) ∙ at_seam (tally.reached rs) f.0 in
      elim (grown rs r (standing plan (length (tally.reached rs)) (tally.count rs)) h.1) [
        | inl quietly ↦ (f.0, ap (λ (x : List Timed). x ++ f.0) quietly.0 ∙ f.1)
        | inr found ↦
            let l = first_left (tally.count rs) f.0 found.0 (sym (ap (event_at (tally.count rs)) here) ∙ found.1) in
            (l.0, ap (λ (x : List Timed). x ++ l.0) found.2 ∙ append_assoc (tally.reached rs) (timed_at (tally.count rs) found.0 ∷ []) l.0 ∙ ap (λ (x : List Timed). tally.reached rs ++ x) (sym l.1) ∙ f.1)
      ]

  -- what a record reached stands before what later records reach
  grown_by : (rs : List Record) (r : Record) (o : Option Event) → next o rs ≡ Does r → (x : List Timed) × (tally.reached (r ∷ rs) ≡ tally.reached rs ++ x)
  grown_by rs r o h = elim (grown rs r o h) [
    | inl quietly ↦ ([], quietly.0 ∙ sym (append-nil (tally.reached rs)))
    | inr found ↦ (timed_at (tally.count rs) found.0 ∷ [], found.2)
  ]

  -- a record that reached nothing does not look at the event
  unheard : (rs : List Record) (r : Record) (o : Option Event) (more : List Timed) → next o rs ≡ Does r → tally.reached (r ∷ rs) ++ more ≡ tally.reached rs → next None rs ≡ Does r
  unheard rs r o more h short = elim (grown rs r o h) [
    | inl quietly ↦ quietly.1
    | inr found ↦
        let a : length (tally.reached (r ∷ rs) ++ more) ≡ length (tally.reached rs) = ap length short in
        let b : length (tally.reached (r ∷ rs)) ≡ length (tally.reached rs ++ timed_at (tally.count rs) found.0 ∷ []) = ap length found.2 in
        absurd (omega (arith, a, b, length-append (tally.reached (r ∷ rs)) more, length-append (tally.reached rs) (timed_at (tally.count rs) found.0 ∷ [])))
  ]

  front_next : (rs : List Record) (r : Record) (plan front rest left more : List Timed) → front ++ rest ≡ plan → tally.reached rs ++ left ≡ front → tally.reached (r ∷ rs) ++ more ≡ front → next_by next tally plan rs ≡ Does r → next_by next tally front rs ≡ Does r
  front_next rs r plan front rest [] more whole at now h =
      let same : tally.reached rs ≡ front = sym (append-nil (tally.reached rs)) ∙ at in
      let here : slice_get front (length (tally.reached rs)) ≡ None = ap (λ (p : List Timed). slice_get p (length (tally.reached rs))) (sym same) ∙ slice_get_past (tally.reached rs) (length (tally.reached rs)) (omega arith) in
      ap (λ (t : Option Timed). next (event_at (tally.count rs) t) rs) here ∙ unheard rs r (standing plan (length (tally.reached rs)) (tally.count rs)) more h (now ∙ sym same)
  front_next rs r plan front rest (t ∷ left) more whole at now h =
      let n = length (tally.reached rs) in
      let here : slice_get front n ≡ Some t = ap (λ (p : List Timed). slice_get p n) (sym at) ∙ at_seam (tally.reached rs) (t ∷ left) in
      let long : tally.reached rs ++ (t ∷ left ++ rest) ≡ plan = sym (append_assoc (tally.reached rs) (t ∷ left) rest) ∙ ap (λ (x : List Timed). x ++ rest) at ∙ whole in
      let there : slice_get plan n ≡ Some t = ap (λ (p : List Timed). slice_get p n) (sym long) ∙ at_seam (tally.reached rs) (t ∷ left ++ rest) in
      ap (λ (o : Option Timed). next (event_at (tally.count rs) o) rs) (here ∙ sym there) ∙ h

  -- the records are those of every front of the plan that has the events that they reached
  pub past_of_front : (rs : List Record) (plan front rest more : List Timed) → front ++ rest ≡ plan → tally.reached rs ++ more ≡ front → IsPastBy next tally plan rs → IsPastBy next tally front rs
  past_of_front [] plan front rest more whole now h = tt
  past_of_front (r ∷ rs) plan front rest more whole now h =
      let g = grown_by rs r (standing plan (length (tally.reached rs)) (tally.count rs)) h.1 in
      let before : tally.reached rs ++ (g.0 ++ more) ≡ front = sym (append_assoc (tally.reached rs) g.0 more) ∙ ap (λ (x : List Timed). x ++ more) (sym g.1) ∙ now in
      (past_of_front rs plan front rest (g.0 ++ more) whole before h.0, front_next rs r plan front rest (g.0 ++ more) more whole before now h.1)

  -- an end reaches nothing, or the event that stands there
  ended : (rs : List Record) (f : Finish) (o : Option Event) → next o rs ≡ Ends f
      → ((f.event ≡ None) × (next None rs ≡ Ends f)) ⊎ ((e : Event) × (o ≡ Some e) × (f.event ≡ Some e))
  ended rs f None h = inl (heeds.silent rs f h, h)
  ended rs f (Some e) h = elim (heeds.heard rs e) [
    | inl same ↦ let n = sym same ∙ h in inl (heeds.silent rs f n, n)
    | inr (inl found) ↦ absurd (cc (sym found.1 ∙ h))
    | inr (inr ends) ↦
        let one : ends.0 ≡ f = ends_is ends.0 f (sym ends.1 ∙ h) in
        inr (e, refl, subst (λ (x : Finish). x.event ≡ Some e) one ends.2)
  ]

  -- the events that were reached to an end are the first of the plan
  pub reached_to_end : (plan : List Timed) (rs : List Record) (f : Finish) → IsPastBy next tally plan rs
      → next_by next tally plan rs ≡ Ends f → (rest : List Timed) × (reached_with tally rs f ++ rest ≡ plan)
  reached_to_end plan rs f past ends =
      let front = reached_front plan rs past in
      let n = length (tally.reached rs) in
      elim (ended rs f (standing plan n (tally.count rs)) ends) [
        | inl quiet ↦ (
          front.0,
          ap (λ (o : Option Event). (tally.reached rs ++ reached_last (tally.count rs) o) ++ front.0) quiet.0
              ∙ ap (λ (x : List Timed). x ++ front.0) (append-nil (tally.reached rs)) ∙ front.1,
        )
        | inr found ↦
            let here : slice_get plan n ≡ slice_get front.0 0 =
            ap (λ (p : List Timed). slice_get p n) (sym front.1) ∙ at_seam (tally.reached rs) front.0 in
            let l = first_left (tally.count rs) front.0 found.0 (sym (ap (event_at (tally.count rs)) here) ∙ found.1) in (
              l.0,
              ap (λ (o : Option Event). (tally.reached rs ++ reached_last (tally.count rs) o) ++ l.0) found.2
                  ∙ append_assoc (tally.reached rs) (timed_at (tally.count rs) found.0 ∷ []) l.0
                  ∙ ap (λ (x : List Timed). tally.reached rs ++ x) (sym l.1) ∙ front.1,
            )
      ]

  -- ---- the plan of the events that were reached

  -- an event behind the plan, at a count that is not reached before the record is done, changes nothing
  still_last : (rs : List Record) (r : Record) (plan : List Timed) (k : ℕ) (e : Event) → IsCounted next tally
      → tally.reached rs ≡ plan → next_by next tally plan rs ≡ Does r → tally.count (r ∷ rs) ≤ k
      → next_by next tally (plan ++ timed_at k e ∷ []) rs ≡ Does r
  still_last rs r plan k e counted same h le =
      ap (λ (o : Option Timed). next (event_at (tally.count rs) o) rs) there ∙ by_count (eqb k (tally.count rs)) refl
    where
      there : slice_get (plan ++ timed_at k e ∷ []) (length (tally.reached rs)) ≡ Some (timed_at k e)
      there =
          ap (λ (p : List Timed). slice_get (p ++ timed_at k e ∷ []) (length (tally.reached rs))) (sym same)
          ∙ at_seam (tally.reached rs) (timed_at k e ∷ [])

      -- under the plan no event stands there
      without : next None rs ≡ Does r
      without =
          let none : slice_get plan (length (tally.reached rs)) ≡ None =
          ap (λ (p : List Timed). slice_get p (length (tally.reached rs))) (sym same)
          ∙ slice_get_past (tally.reached rs) (length (tally.reached rs)) (omega arith) in
          ap (λ (t : Option Timed). next (event_at (tally.count rs) t) rs) (sym none) ∙ h

      by_count : (b : Bool) → eqb k (tally.count rs) ≡ b → next (cond (eqb k (tally.count rs)) (Some e) None) rs ≡ Does r
      by_count false is = ap (λ (c : Bool). next (cond c (Some e) None) rs) is ∙ without
      by_count true is =
          let at : k ≡ tally.count rs = eqb-true _ _ is in
          ap (λ (c : Bool). next (cond c (Some e) None) rs) is ∙ elim (heeds.heard rs e) [
            | inl quiet ↦ quiet ∙ without
            | inr (inl found) ↦
                let one : tally.count (r ∷ rs) ≡ tally.count rs + 1 = counted.counts rs e found.0 r found.1 found.2 without in
                absurd (omega (arith, one, at, le))
            | inr (inr ends) ↦
                let one : tally.count (r ∷ rs) ≡ tally.count rs + 1 = counted.ends rs e ends.0 r ends.1 ends.2 without in
                absurd (omega (arith, one, at, le))
          ]

  -- the first records by a plan are those by the plan with one event more, at a count that has come last
  with_more : (rs : List Record) (plan more : List Timed) (k : ℕ) (e : Event) → IsCounted next tally
      → IsPastBy next tally plan rs → tally.reached rs ++ more ≡ plan → tally.count rs ≤ k
      → IsPastBy next tally (plan ++ timed_at k e ∷ []) rs
  with_more [] plan more k e counted past now le = tt
  with_more (r ∷ rs) plan more k e counted past now le =
      let o = standing plan (length (tally.reached rs)) (tally.count rs) in
      let g = grown_by rs r o past.1 in
      let before : tally.reached rs ++ (g.0 ++ more) ≡ plan =
      sym (append_assoc (tally.reached rs) g.0 more) ∙ ap (λ (x : List Timed). x ++ more) (sym g.1) ∙ now in
      let grows : tally.count rs ≤ tally.count (r ∷ rs) = counted.grows o rs r past.1 in
      (with_more rs plan (g.0 ++ more) k e counted past.0 before (omega (arith, le, grows)), still (g.0 ++ more) before)
    where
      still : (left : List Timed) → tally.reached rs ++ left ≡ plan → next_by next tally (plan ++ timed_at k e ∷ []) rs ≡ Does r
      still [] at = still_last rs r plan k e counted (sym (append-nil (tally.reached rs)) ∙ at) past.1 le
      still (t ∷ left) at =
          let n = length (tally.reached rs) in
          let here : slice_get plan n ≡ Some t =
          ap (λ (p : List Timed). slice_get p n) (sym at) ∙ at_seam (tally.reached rs) (t ∷ left) in
          let long : tally.reached rs ++ (t ∷ left ++ timed_at k e ∷ []) ≡ plan ++ timed_at k e ∷ [] =
          sym (append_assoc (tally.reached rs) (t ∷ left) (timed_at k e ∷ [])) ∙ ap (λ (x : List Timed). x ++ timed_at k e ∷ []) at in
          let there : slice_get (plan ++ timed_at k e ∷ []) n ≡ Some t =
          ap (λ (p : List Timed). slice_get p n) (sym long) ∙ at_seam (tally.reached rs) (t ∷ left ++ timed_at k e ∷ []) in
          ap (λ (o : Option Timed). next (event_at (tally.count rs) o) rs) (there ∙ sym here) ∙ past.1

  -- where so many events were reached, none of them stands any more
  none_left : (rs : List Record) → standing (tally.reached rs) (length (tally.reached rs)) (tally.count rs) ≡ None
  none_left rs =
      ap (event_at (tally.count rs)) (slice_get_past (tally.reached rs) (length (tally.reached rs)) (omega arith))

  -- an event that is timed at the count stands behind those that were reached
  one_left : (rs : List Record) (e : Event)
      → standing (tally.reached rs ++ timed_at (tally.count rs) e ∷ []) (length (tally.reached rs)) (tally.count rs) ≡ Some e
  one_left rs e =
      ap (event_at (tally.count rs)) (at_seam (tally.reached rs) (timed_at (tally.count rs) e ∷ []))
      ∙ ap (λ (b : Bool). cond b (Some e) None) (same_count (tally.count rs))

  -- records that come next with any events are those of the plan of the events that they reached
  pub past_of_reached : (rs : List Record) → IsCounted next tally → IsPastOfSome next rs → IsPastBy next tally (tally.reached rs) rs
  past_of_reached [] counted past = tt
  past_of_reached (r ∷ rs) counted past =
      let before = past_of_reached rs counted past.0 in
      elim (grown rs r past.1.0 past.1.1) [
        | inl quiet ↦
            subst (λ (plan : List Timed). IsPastBy next tally plan rs × (next_by next tally plan rs ≡ Does r)) (sym quiet.0)
            (before, ap (λ (o : Option Event). next o rs) (none_left rs) ∙ quiet.1)
        | inr found ↦
            let is : next (Some found.0) rs ≡ Does r = ap (λ (o : Option Event). next o rs) (sym found.1) ∙ past.1.1 in
            subst (λ (plan : List Timed). IsPastBy next tally plan rs × (next_by next tally plan rs ≡ Does r)) (sym found.2) (
              with_more rs (tally.reached rs) [] (tally.count rs) found.0 counted before (append-nil (tally.reached rs)) (omega arith),
              ap (λ (o : Option Event). next o rs) (one_left rs found.0) ∙ is,
            )
      ]

  -- the records are those of the plan that has the event behind it that was reached with an end
  pub past_with_end : (rs : List Record) (f : Finish) → IsCounted next tally → IsPastBy next tally (tally.reached rs) rs
      → IsPastBy next tally (reached_with tally rs f) rs
  past_with_end rs f counted past = by_event f.event
    where
      by_event : (o : Option Event) → IsPastBy next tally (tally.reached rs ++ reached_last (tally.count rs) o) rs
      by_event None = subst (λ (plan : List Timed). IsPastBy next tally plan rs) (sym (append-nil (tally.reached rs))) past
      by_event (Some e) =
          with_more rs (tally.reached rs) [] (tally.count rs) e counted past (append-nil (tally.reached rs)) (omega arith)

  -- and so is an end that comes next with any event
  pub end_of_reached : (rs : List Record) (f : Finish) (o : Option Event) → next o rs ≡ Ends f
      → next_by next tally (reached_with tally rs f) rs ≡ Ends f
  end_of_reached rs f o h = elim (ended rs f o h) [
    | inl quiet ↦
        subst (λ (x : Option Event). next_by next tally (tally.reached rs ++ reached_last (tally.count rs) x) rs ≡ Ends f) (sym quiet.0)
        (subst (λ (plan : List Timed). next_by next tally plan rs ≡ Ends f) (sym (append-nil (tally.reached rs)))
        (ap (λ (x : Option Event). next x rs) (none_left rs) ∙ quiet.1))
    | inr found ↦
        subst (λ (x : Option Event). next_by next tally (tally.reached rs ++ reached_last (tally.count rs) x) rs ≡ Ends f) (sym found.2)
        (ap (λ (x : Option Event). next x rs) (one_left rs found.0 ∙ sym found.1) ∙ h)
  ]

  -- a run is also the run of the events that it reached
  pub run_of_reached : (plan : List Timed) (rs : List Record) (f : Finish) → IsPastBy next tally plan rs
      → next_by next tally plan rs ≡ Ends f
      → IsPastBy next tally (reached_with tally rs f) rs × (next_by next tally (reached_with tally rs f) rs ≡ Ends f)
  run_of_reached plan rs f past ends =
      let front = reached_to_end plan rs f past ends in (
        past_of_front rs plan (reached_with tally rs f) front.0 (reached_last (tally.count rs) f.event) front.1 refl past,
        end_of_reached rs f (standing plan (length (tally.reached rs)) (tally.count rs)) ends,
      )
