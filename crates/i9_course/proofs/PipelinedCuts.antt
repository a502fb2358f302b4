-- A length cuts a pipelined run, but for arithmetic faults at the length itself, which are precise there.
use Rattle.std.proofs.Common.{◌≡◌, ◌≢◌, ℕ, ◌+◌, ◌<◌, ◌≤◌, false, List, [], ◌∷◌, Option, Some, None, refl, sym, ap, ◌∙◌, subst, ◌⊎◌, inl, inr, ◌↔◌, arith}
use Rattle.i9_model.specs.declared.event.Event.{Event}
use Rattle.i9_model.specs.declared.run.Due.{Due}
use Rattle.i9_model.specs.declared.run.Due.TheVariants as dues
use Rattle.i9_model.specs.declared.run.End.TheVariants.{Limit, Imprecise}
use Rattle.i9_model.specs.State.{State}
use Rattle.i9_model.specs.Run.{Given, Kind, Record, Ends, counts_of, action_by_kind, Next, Does, due_by, due_after, next_with, state_after, IsPastOfSome, Finish, finish}
use Rattle.i9_model.proofs.ControlLaws.{acted-count}
use Rattle.i9_past.proofs.Comes.{MayCome, next_comes}
use Rattle.i9_past.proofs.Ends.{some_within}
use Rattle.i9_past.proofs.Cuts.{state_by, next_longer}
use Rattle.i9_course.specs.Course.{records_of, event_ahead, comes_next, last_fault, imprecise_at}
use Rattle.i9_course.specs.PipelinedRun.{steps, IsPipelinedPast, IsPipelinedRun, is_imprecise}
use Rattle.i9_course.proofs.Ahead.{imprecise_overtaken}
use Rattle.i9_course.proofs.Orderly.{course_events}
use Rattle.i9_course.proofs.Same.{same_event}
use Rattle.i9_course.proofs.PipelinedRuns.{records_of-steps, next_of_steps, late_events, with_step, run_imprecise, imprecise_run, run_ends, precise_run}

abbrev at_length : Given → ℕ → Given
at_length g more = record g { length = more }

-- ---- below the length

-- a record comes below the length, or it is the entry of a fault, after which nothing is due
abbrev ComesBelow : ℕ → State → Kind → State → Type 0
ComesBelow limit s k u = (s.count < limit) ⊎ ((due_by k u ≡ dues.Nothing) × (counts_of k ≡ 0))

below : (a b : ℕ) → a ≤ b → a ≢ b → a < b
below a b le other = grind (arith, le, other)

kind_below : (limit : ℕ) (due : Due) (stands : Option Event) (s u : State) (k : Kind) → s.count ≤ limit
    → MayCome limit due stands s k → ComesBelow limit s k u
kind_below limit due stands s u k le may = grind arith

at_most : (a b : ℕ) → a ≤ b → (a < b) ⊎ (a ≡ b)
at_most a b le = grind arith

-- before the last record the count is below the length, or nothing is due behind it, at the length
abbrev IsBelow : Given → List Record → Record → Type 0
IsBelow g rs r =
    ((state_after g rs).count < g.length) ⊎ ((due_after (r ∷ rs) ≡ dues.Nothing) × (r.after.count ≡ g.length))

last_below : (g : Given) (rs : List Record) (r : Record) → IsPastOfSome (next_with g) (r ∷ rs) → IsBelow g rs r
last_below g rs r past =
    let s = state_after g rs in
    let within : s.count ≤ g.length = some_within g rs past.0 in
    let o = past.1.0 in
    let comes = next_comes g.length (due_after rs) o s r past.1.1 in
    let count : r.after.count ≡ s.count + counts_of r.kind =
    ap (λ (q : Record). q.after.count) comes.0
    ∙ ap (λ (n : ℕ). n + counts_of r.kind) (acted-count s (action_by_kind r.kind s)) in
    elim (kind_below g.length (due_after rs) o s r.before r.kind within comes.1) [
      | inl lt ↦ inl lt
      | inr entry ↦ elim (at_most s.count g.length within) [
        | inl lt ↦ inl lt
        | inr same ↦ inr (entry.0, omega (arith, count, same, entry.1))
      ]
    ]

-- where the run does not end there by its length, it is below it
ends_there : (g : Given) (stands : Option Event) (rs : List Record) (r : Record) → due_after (r ∷ rs) ≡ dues.Nothing
    → r.after.count ≡ g.length → next_with g stands (r ∷ rs) ≡ Ends (finish Limit)
ends_there g stands rs r none at = grind arith

goes_below : (g : Given) (rs : List Record) (r : Record) → IsPipelinedPast g (r ∷ rs) → comes_next g (steps (r ∷ rs)) ≢ Ends (finish Limit)
    → (state_after g rs).count < g.length
goes_below g rs r late other = elim (last_below g rs r (late_events g (r ∷ rs) late)) [
  | inl lt ↦ lt
  | inr there ↦ absurd (other (next_of_steps g (r ∷ rs) ∙ ends_there g (event_ahead g (steps (r ∷ rs))) rs r there.0 there.1))
]

-- nor where the count behind it is
counts_below : (g : Given) (rs : List Record) (r : Record) → IsPipelinedPast g (r ∷ rs) → r.after.count < g.length
    → (state_after g rs).count < g.length
counts_below g rs r late lt = elim (last_below g rs r (late_events g (r ∷ rs) late)) [
  | inl here ↦ here
  | inr there ↦ absurd (let at = there.1 in omega (arith, at, lt))
]

-- ---- at a greater length

-- below the length a greater one makes no other fault imprecise
pub imprecise_more : (g : Given) (more : ℕ) (rs : List Record) → g.length ≤ more → (state_after g rs).count < g.length
    → imprecise_at (at_length g more) (steps rs) ≡ imprecise_at g (steps rs)
imprecise_more g more rs longer lt = grind arith

-- what comes next but for the end of the length comes next at a greater one
comes_more : (g : Given) (more : ℕ) (rs : List Record) (x : Next) → g.length ≤ more → IsPipelinedPast g rs → x ≢ Ends (finish Limit)
    → comes_next g (steps rs) ≡ x → comes_next (at_length g more) (steps rs) ≡ x
comes_more g more rs x longer late other e =
    let k = at_length g more in
    let h = steps rs in
    let qs = records_of h in
    cc (
      same_event g k refl refl h refl,
      state_by g k qs refl,
      next_longer g.length more (due_after qs) (event_ahead g h) (state_after g qs) x (some_within g qs (course_events g h late)) longer other e,
    )

no_limit : (r : Record) → Does r ≢ Ends (finish Limit)
no_limit r same = cc same

-- all records but the last are done late at it
before_more : (g : Given) (more : ℕ) (rs : List Record) (r : Record) → g.length ≤ more → IsPipelinedPast g (r ∷ rs)
    → IsPipelinedPast (at_length g more) rs
before_more g more [] r longer late = tt
before_more g more (q ∷ rs) r longer late =
    let lt = goes_below g rs q late.0 (λ no. no_limit r (sym late.2 ∙ no)) in
    with_step (at_length g more) rs q (before_more g more rs q longer late.0) (imprecise_more g more rs longer lt ∙ late.0.1)
    (comes_more g more rs (Does q) longer late.0.0 (no_limit q) late.0.2)

-- and the last one, where the fault before it is precise
pub last_more : (g : Given) (more : ℕ) (rs : List Record) (r : Record) → g.length ≤ more → IsPipelinedPast g (r ∷ rs)
    → imprecise_at (at_length g more) (steps rs) ≡ None → IsPipelinedPast (at_length g more) (r ∷ rs)
last_more g more rs r longer late none =
    with_step (at_length g more) rs r (before_more g more rs r longer late) none
    (comes_more g more rs (Does r) longer late.0 (no_limit r) late.2)

pub late_more : (g : Given) (more : ℕ) (rs : List Record) (r : Record) → g.length ≤ more → IsPipelinedPast g (r ∷ rs)
    → (IsPipelinedPast (at_length g more) (r ∷ rs) ↔ imprecise_at (at_length g more) (steps rs) ≡ None)
late_more g more rs r longer late = (λ there. there.1, λ none. last_more g more rs r longer late none)

-- below the length each is
pub below_more : (g : Given) (more : ℕ) (rs : List Record) → g.length ≤ more → (state_after g rs).count < g.length
    → IsPipelinedPast g rs → IsPipelinedPast (at_length g more) rs
below_more g more [] longer lt late = tt
below_more g more (r ∷ rs) longer lt late =
    let here = counts_below g rs r late lt in
    last_more g more rs r longer late (imprecise_more g more rs longer here ∙ late.1)

-- no fault is imprecise where none was raised, whatever the length
pub none_raised : (g : Given) (rs : List Record) → last_fault rs ≡ None → imprecise_at g (steps rs) ≡ None
none_raised g rs none = grind arith

pub precise_more : (g : Given) (more : ℕ) (rs : List Record) → g.length ≤ more → IsPipelinedPast g rs
    → imprecise_at g (steps rs) ≡ None → (last_fault rs ≡ None) ⊎ ((state_after g rs).count < g.length)
    → imprecise_at (at_length g more) (steps rs) ≡ None
precise_more g more rs longer late none h = grind arith

pub late_longer : (g : Given) (more : ℕ) (rs : List Record) (r : Record) → g.length ≤ more → IsPipelinedPast g (r ∷ rs)
    → (last_fault rs ≡ None) ⊎ ((state_after g rs).count < g.length) → IsPipelinedPast (at_length g more) (r ∷ rs)
late_longer g more rs r longer late h =
    last_more g more rs r longer late (precise_more g more rs longer late.0 late.1 h)

-- ---- runs

limit_no : (e : Finish) → e.end ≢ Limit → Ends e ≢ Ends (finish Limit)
limit_no e other h = other (let same : e ≡ finish Limit = cc in ap (λ (f : Finish). f.end) same)

-- all records are done late at the greater length
past_ended : (g : Given) (more : ℕ) (rs : List Record) (e : Finish) → g.length ≤ more → e.end ≢ Limit
    → is_imprecise e.end ≡ false → IsPipelinedRun g rs e → IsPipelinedPast (at_length g more) rs
past_ended g more [] e longer other plain run = tt
past_ended g more (r ∷ rs) e longer other plain run =
    let ends = (run_ends g (r ∷ rs) e plain run).1 in
    let lt = goes_below g rs r run.past (λ no. limit_no e other (sym ends ∙ no)) in
    last_more g more rs r longer run.past (imprecise_more g more rs longer lt ∙ run.past.1)

pub ended_more : (g : Given) (more : ℕ) (rs : List Record) (e : Finish) → g.length ≤ more → e.end ≢ Limit
    → is_imprecise e.end ≡ false → IsPipelinedRun g rs e
    → (IsPipelinedRun (at_length g more) rs e ↔ imprecise_at (at_length g more) (steps rs) ≡ None)
ended_more g more rs e longer other plain run =
    let k = at_length g more in (
      λ there. (run_ends k rs e plain there).0,
      λ none. precise_run k rs e (past_ended g more rs e longer other plain run) none
          (comes_more g more rs (Ends e) longer run.past (limit_no e other) (run_ends g rs e plain run).1),
    )

pub ended_longer : (g : Given) (more : ℕ) (rs : List Record) (e : Finish) → g.length ≤ more → e.end ≢ Limit
    → is_imprecise e.end ≡ false → IsPipelinedRun g rs e → (last_fault rs ≡ None) ⊎ ((state_after g rs).count < g.length)
    → IsPipelinedRun (at_length g more) rs e
ended_longer g more rs e longer other plain run h =
    (ended_more g more rs e longer other plain run).1
    (precise_more g more rs longer run.past (run_ends g rs e plain run).0 h)

pub faulted_more : (g : Given) (more : ℕ) (rs : List Record) (e : Finish) (a : ℕ) → g.length ≤ more → e.end ≢ Limit
    → is_imprecise e.end ≡ false → IsPipelinedRun g rs e → imprecise_at (at_length g more) (steps rs) ≡ Some a
    → IsPipelinedRun (at_length g more) rs (finish (Imprecise a))
faulted_more g more rs e a longer other plain run is =
    imprecise_run (at_length g more) rs a (past_ended g more rs e longer other plain run) is

-- an imprecise fault is below the length
pub imprecise_below : (g : Given) (rs : List Record) (a : ℕ) → IsPipelinedRun g rs (finish (Imprecise a))
    → (state_after g rs).count < g.length
imprecise_below g rs a run =
    subst (λ (qs : List Record). (state_after g qs).count < g.length) (records_of-steps rs)
    (imprecise_overtaken g (steps rs) a (run_imprecise g rs a run)).1

pub imprecise_run_more : (g : Given) (more : ℕ) (rs : List Record) (a : ℕ) → g.length ≤ more
    → IsPipelinedRun g rs (finish (Imprecise a)) → IsPipelinedRun (at_length g more) rs (finish (Imprecise a))
imprecise_run_more g more rs a longer run =
    let lt = imprecise_below g rs a run in
    imprecise_run (at_length g more) rs a (below_more g more rs longer lt run.past)
    (imprecise_more g more rs longer lt ∙ run_imprecise g rs a run)
