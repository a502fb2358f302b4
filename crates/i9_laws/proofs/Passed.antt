-- No event of a plan that is left stands at a count that is past.
use Rattle.std.proofs.Common.{◌≡◌, ◌⊎◌, ℕ, zero, suc, ◌+◌, ◌≤◌, Bool, true, false, cond, List, [], ◌∷◌, length, drop, Option, Some, None, refl, sym, ap, ◌∙◌, subst, inl, inr, length-append, arith}
use Rattle.std.specs.Prelude.{◌==◌}
use Rattle.std.proofs.lemmas.Bool.{eqb-false}
use Rattle.std.proofs.lemmas.List.{drop-drop}
use Rattle.i9_past.proofs.Ends.{boot_count}
use Rattle.i9_past.proofs.Left.{counts_after}
use Rattle.i9_model.specs.declared.event.Event.{Event}
use Rattle.i9_model.specs.declared.event.Timed.{Timed}
use Rattle.i9_model.specs.declared.event.When.{When}
use Rattle.i9_model.specs.declared.event.When.TheVariants.{At, Turn}
use Rattle.i9_model.specs.State.{State}
use Rattle.i9_model.specs.ScheduleText.{at_time, time_of, is_counted, has_come_at, InOrder, IsPlan, IsByCounts, standing}
use Rattle.i9_model.specs.Run.{Given, Kind, Instruction, Faulted, Record, counts_of, due_after, reached_by, reached_after, event_after, state_after, IsPast}
use Rattle.i9_past.proofs.Comes.{next_comes}
use Rattle.i9_laws.proofs.Decoded.{IsTurn, next_turn}

-- ---- events in order

sooner : (a b : ℕ) (ts : List Timed) → a ≤ b → InOrder b ts → InOrder a ts
sooner a b [] h order = tt
sooner a b (t ∷ ts) h order = let first = order.0 in (omega (arith, first, h), order.1)

dropped : (time n : ℕ) (ts : List Timed) → InOrder time ts → InOrder time (drop n ts)
dropped time zero ts order = order
dropped time (suc n) [] order = tt
dropped time (suc n) (t ∷ ts) order = sooner time (time_of t) (drop n ts) order.0 (dropped (time_of t) n ts order.1)

-- a time that has not come yet after so many instructions is later
not_come : (k : ℕ) (w : When) (x : Event) → is_counted w ≡ true → cond (has_come_at k w) (Some x) None ≡ None → k ≤ at_time w
    → k + 1 ≤ at_time w
not_come k (Turn n) x counted none least = absurd (cc counted)
not_come k (At n) x counted none least = by_test (n == k) refl none
  where
    by_test : (b : Bool) → (n == k) ≡ b → cond b (Some x) None ≡ None → k + 1 ≤ n
    by_test true test h = absurd (cc h)
    by_test false test h = let other = eqb-false n k test in omega (arith, other, least)

-- where none stands, the first that is left is later
later : (k place : ℕ) (ts : List Timed) → IsByCounts ts → standing ts place k ≡ None → InOrder k (drop place ts)
    → InOrder (k + 1) (drop place ts)
later k zero [] counted none order = tt
later k (suc place) [] counted none order = tt
later k (suc place) (t ∷ ts) counted none order = later k place ts counted.1 none order
later k zero (t ∷ ts) counted none order = (not_come k t.when t.event counted.0 none order.0, order.1)

-- ---- what counts

-- a record counts none, or it counts one where no event stands
abbrev Counts : Option Event → Kind → Type 0
Counts stands k = (counts_of k ≡ 0) ⊎ ((counts_of k ≡ 1) × (stands ≡ None))

kind_counts : (stands : Option Event) (s : State) (k : Kind) → IsTurn stands s k → Counts stands k
kind_counts stands s (Instruction i) turn = inr (refl, turn.0)
kind_counts stands s (Faulted inst fault) turn = inr (refl, turn)
kind_counts stands s _ turn = inl refl

-- ---- a run

pub none_passed : (g : Given) (rs : List Record) → IsPlan g.plan → IsByCounts g.plan → IsPast g rs
    → InOrder (state_after g rs).count (drop (length (reached_after rs)) g.plan)
none_passed g [] plan counted past = subst (λ (n : ℕ). InOrder n g.plan) (sym (boot_count g.image)) plan.order
none_passed g (r ∷ rs) plan counted past =
    let s = state_after g rs in
    let place = length (reached_after rs) in
    let order = none_passed g rs plan counted past.0 in
    let counts = kind_counts (event_after g rs) s r.kind
    (next_turn g.length (due_after rs) (event_after g rs) s r past.1) in
    let comes = next_comes g.length (due_after rs) (event_after g rs) s r past.1 in
    let count : r.after.count ≡ s.count + counts_of r.kind = ap (λ (q : Record). q.after.count) comes.0 ∙ counts_after r.kind s in
    let now : InOrder r.after.count (drop place g.plan) = elim counts [
      | inl none ↦ sooner r.after.count s.count (drop place g.plan) (omega (arith, count, none)) order
      | inr one ↦
          sooner r.after.count (s.count + 1) (drop place g.plan) (omega (arith, count, one.0)) (later s.count place g.plan counted one.1 order)
    ] in
    rw (length-append, ← drop-drop) (dropped r.after.count (length (reached_by r.kind r.before)) (drop place g.plan) now)
