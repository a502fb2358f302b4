-- Every run ends: each record leaves less work, and none counts beyond the length.
use Rattle.std.proofs.Common.{◌≡◌, ℕ, zero, suc, ◌+◌, ◌<◌, ◌≤◌, List, [], ◌∷◌, ◌++◌, length, drop, Option, Some, None, refl, sym, subst, append_assoc, length-append, arith}
use Rattle.i9_model.specs.declared.event.Event.{Event}
use Rattle.i9_model.specs.declared.event.Timed.{Timed}
use Rattle.i9_model.specs.declared.run.Due.{Due}
use Rattle.i9_model.specs.ScheduleText.{timed_at}
use Rattle.i9_model.specs.State.{State, started, boot}
use Rattle.i9_model.specs.Left.{left_in}
use Rattle.i9_model.specs.Run.{Given, Record, Next, Does, Ends, next_in, reached_by, reached_after, state_after, due_after, event_after, next_with, next, IsPast, IsPastOf, IsPastOfSome, IsRun, Finish}
use Rattle.i9_past.proofs.Heedful.{past_of_some}
use Rattle.i9_past.proofs.Left.{IsAtPlace, standing_at_place, next_leaves}

-- ---- no run counts beyond its length

pub boot_count : (image : List (ℕ × ℕ)) → (boot image).count ≡ 0
unfolding boot started
boot_count image = refl

-- some plan has the event that stands
plan_of : Option Event → List Timed
plan_of None = []
plan_of (Some e) = timed_at 0 e ∷ []

in_plan_of : (o : Option Event) → IsAtPlace (plan_of o) 0 o
unfolding plan_of
in_plan_of None e is = absurd (cc is)
in_plan_of (Some x) e is = let same : x ≡ e = cc in (timed_at 0 x, refl, same)

pub within_next : (limit : ℕ) (due : Due) (o : Option Event) (s : State) (r : Record) → next_in limit due o s ≡ Does r
    → s.count ≤ limit → r.after.count ≤ limit
within_next limit due o s r e = (next_leaves limit (plan_of o) 0 due o s r (in_plan_of o) e).within

pub some_within : (g : Given) (rs : List Record) → IsPastOfSome (next_with g) rs → (state_after g rs).count ≤ g.length
some_within g [] past = omega (arith, boot_count g.image)
some_within g (r ∷ rs) past = grind (arith, within_next, some_within g rs past.0)

pub count_within : (g : Given) (rs : List Record) → IsPast g rs → (state_after g rs).count ≤ g.length
count_within g rs past = some_within g rs (past_of_some g rs past)

-- ---- it goes on to its end

-- what is left after records
abbrev left_after : Given → List Record → ℕ
left_after g rs = left_in g.length (drop (length (reached_after rs)) g.plan) (due_after rs) (state_after g rs)

-- what comes after records is what comes where the next event of the plan stands, or none
abbrev pub IsByPlan : Given → (List Record → Next) → Type 0
IsByPlan g comes =
    (rs : List Record) (r : Record) → comes rs ≡ Does r
    → (o : Option Event) × IsAtPlace g.plan (length (reached_after rs)) o × (next_with g o rs ≡ Does r)

one_before : (later rs : List Record) (r : Record) → (later ++ r ∷ []) ++ rs ≡ later ++ r ∷ rs
one_before later rs r = append_assoc later (r ∷ []) rs

module _ (g : Given) (comes : List Record → Next) (by_plan : IsByPlan g comes) where
  pub some_past : (rs : List Record) → IsPastOf comes rs → IsPastOfSome (next_with g) rs
  some_past [] past = tt
  some_past (r ∷ rs) past = let by = by_plan rs r past.1 in (some_past rs past.0, (by.0, by.2))

  record_leaves : (r : Record) (rs : List Record) → IsPastOf comes rs → comes rs ≡ Does r → left_after g (r ∷ rs) < left_after g rs
  record_leaves r rs past is =
      let by = by_plan rs r is in
      let leaves = next_leaves g.length g.plan (length (reached_after rs)) (due_after rs) by.0 (state_after g rs) r by.1 by.2 in
      let places : length (reached_after (r ∷ rs)) ≡ length (reached_after rs) + length (reached_by r.kind r.before) = length-append (reached_after rs) (reached_by r.kind r.before) in
      subst (λ (n : ℕ). left_in g.length (drop n g.plan) (due_after (r ∷ rs)) r.after < left_after g rs) (sym places) (leaves.less (some_within g rs (some_past rs past)))

  -- the records of which these are the first, behind which an end comes
  abbrev pub GoesOn : List Record → Type 0
  GoesOn rs = (later : List Record) × (f : Finish) × IsPastOf comes (later ++ rs) × (comes (later ++ rs) ≡ Ends f)

  mutual
    go_on : (n : ℕ) (rs : List Record) (x : Next) → IsPastOf comes rs → left_after g rs ≤ n → comes rs ≡ x → GoesOn rs
    go_on n rs (Ends f) past h e = ([], f, past, e)
    go_on zero rs (Does r) past h e = let less = record_leaves r rs past e in absurd (omega (arith, less, h))
    go_on (suc n) rs (Does r) past h e =
        let less = record_leaves r rs past e in
        let on = go_on n (r ∷ rs) (comes (r ∷ rs)) (past, e) (omega (arith, less, h)) refl in
        let one = sym (one_before on.0 rs r) in (
          on.0 ++ r ∷ [],
          on.1,
          subst (λ (all : List Record). IsPastOf comes all) one on.2,
          subst (λ (all : List Record). comes all ≡ Ends on.1) one on.3,
        )

  pub goes_on : (rs : List Record) → IsPastOf comes rs → GoesOn rs
  goes_on rs past = go_on (left_after g rs) rs (comes rs) past (omega arith) refl

by_counts : (g : Given) → IsByPlan g (next g)
by_counts g rs r e = (event_after g rs, standing_at_place g.plan (length (reached_after rs)) (state_after g rs).count, e)

pub run_goes_on : (g : Given) (rs : List Record) → IsPast g rs → (later : List Record) × (f : Finish) × IsRun g (later ++ rs) f
run_goes_on g rs past =
    let on = goes_on g (next g) (by_counts g) rs past in
    (on.0, on.1, record { past = on.2; ends = on.3 })
