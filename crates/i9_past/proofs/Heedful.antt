-- A run is one that gets its events from a plan.
use Rattle.std.proofs.Common.{◌≡◌, ◌⊎◌, ℕ, ◌+◌, List, [], ◌∷◌, ◌++◌, length, Option, Some, None, Result, Ok, Err, refl, sym, ap, ◌∙◌, inl, inr, arith, length-append}
use Rattle.std.proofs.lemmas.List.{append-nil}
use Rattle.i9_model.specs.declared.event.Event.{Event}
use Rattle.i9_model.specs.declared.event.Timed.{Timed}
use Rattle.i9_model.specs.declared.faults.FaultStop.TheVariants as stops
use Rattle.i9_model.specs.declared.run.Due.{Due}
use Rattle.i9_model.specs.declared.run.Due.TheVariants as dues
use Rattle.i9_model.specs.State.{State}
use Rattle.i9_model.specs.ScheduleText.{timed_at}
use Rattle.i9_model.specs.Before.{Received, received_in}
use Rattle.i9_model.specs.Run.{Given, Reached, Record, counts_of, record_of, Next, Does, Ends, next_in, due_after, reached_after, state_after, event_after, next_with, next, IsPast, IsPastOfSome, Finish, next_by_received, finish_at, reached_in}
use Rattle.i9_model.specs.PlannedRuns.{Tally, IsHeedful, IsCounted, next_by, IsPastBy}
use Rattle.i9_past.proofs.Unique.{does_is}
use Rattle.i9_past.proofs.Comes.{next_comes}
use Rattle.i9_past.proofs.Left.{counts_after}
use Rattle.i9_past.proofs.PlannedRuns.{past_of_reached, past_with_end, end_of_reached}

-- what records count and reach
abbrev pub tally : Given → Tally
tally g = record { count = λ rs. (state_after g rs).count; reached = reached_after }

-- ---- an event that stands is reached, or changes nothing

reaches_none : (g : Given) (rs : List Record) (r : Record) → next_with g None rs ≡ Does r → reached_after (r ∷ rs) ≡ reached_after rs
reaches_none g rs r e = grind (arith, next_comes, append-nil)

-- with no event, an end reaches none
abbrev IsSilent : Next → Type 0
IsSilent o = (f : Finish) → o ≡ Ends f → f.event ≡ None

next_silent : (limit : ℕ) (due : Due) (s : State) → IsSilent (next_in limit due None s)
next_silent limit due s = grind arith

-- what an event comes to that is reached
abbrev reaching : State → Event → Next
reaching s e = next_by_received s e (received_in s e)

abbrev Heeds : Next → Next → State → Event → Type 0
Heeds with_event without s e = (with_event ≡ without) ⊎ (with_event ≡ reaching s e)

due_heeds : (limit : ℕ) (due : Due) (s : State) (e : Event) → Heeds (next_in limit due (Some e) s) (next_in limit due None s) s e
due_heeds limit due s e = grind arith

-- it is reached by a record, or with the end
abbrev IsReached : Given → List Record → Event → Next → Type 0
IsReached g rs e o =
    ((r : Record) × (o ≡ Does r) × (reached_after (r ∷ rs) ≡ reached_after rs ++ timed_at (state_after g rs).count e ∷ []))
    ⊎ ((f : Finish) × (o ≡ Ends f) × (f.event ≡ Some e))

it_reached : (g : Given) (rs : List Record) (e : Event) (o : Result Received ℕ)
    → IsReached g rs e (next_by_received (state_after g rs) e o)
it_reached g rs e (Ok u) = inl (record_of (Reached e u) (state_after g rs), refl, refl)
it_reached g rs e (Err a) = inr (finish_at e a, refl, refl)

pub heedful : (g : Given) → IsHeedful (next_with g) (tally g)
heedful g = grind (arith, reaches_none, next_silent, due_heeds, it_reached)

-- ---- records count

-- the event changes nothing, or what is done without it is an instruction
abbrev Displaces : Next → Next → Type 0
Displaces with_event without = (with_event ≡ without) ⊎ ((r : Record) → without ≡ Does r → counts_of r.kind ≡ 1)

due_displaces : (limit : ℕ) (due : Due) (s : State) (e : Event) → Displaces (next_in limit due (Some e) s) (next_in limit due None s)
due_displaces limit due s e = grind arith

-- the count after a record
count_after : (g : Given) (o : Option Event) (rs : List Record) (r : Record) → next_with g o rs ≡ Does r
    → r.after.count ≡ (state_after g rs).count + counts_of r.kind
count_after g o rs r e =
    let s = state_after g rs in
    let comes = next_comes g.length (due_after rs) o s r e in
    ap (λ (q : Record). q.after.count) comes.0 ∙ counts_after r.kind s

one_more : (xs : List Timed) (x : Timed) → xs ++ x ∷ [] ≡ xs → ⊥
one_more xs x e =
    let longer : length (xs ++ x ∷ []) ≡ length xs + 1 = length-append xs (x ∷ []) in
    let same : length (xs ++ x ∷ []) ≡ length xs = ap (λ (ys : List Timed). length ys) e in
    omega (arith, longer, same)

pub counted : (g : Given) → IsCounted (next_with g) (tally g)
counted g = record {
  grows = λ o rs r e. let count = count_after g o rs r e in omega (arith, count);
  counts = λ rs e q r with_event reaches without. elim (due_displaces g.length (due_after rs) (state_after g rs) e) [
    | inl same ↦
        let one : q ≡ r = does_is q r (sym with_event ∙ same ∙ without) in
        let none = reaches_none g rs r without in
        let also : reached_after (q ∷ rs) ≡ reached_after (r ∷ rs) = ap (λ (x : Record). reached_after (x ∷ rs)) one in
        absurd (one_more (reached_after rs) (timed_at (state_after g rs).count e) (sym reaches ∙ also ∙ none))
    | inr one ↦ let count = count_after g None rs r without in let is = one r without in omega (arith, count, is)
  ];
  ends = λ rs e f r with_event reaches without. elim (due_displaces g.length (due_after rs) (state_after g rs) e) [
    | inl same ↦ absurd (cc (sym with_event ∙ same ∙ without))
    | inr one ↦ let count = count_after g None rs r without in let is = one r without in omega (arith, count, is)
  ];
}

-- ---- a past, by its plan

pub planned_past : (g : Given) (rs : List Record) → IsPast g rs → IsPastBy (next_with g) (tally g) g.plan rs
planned_past g [] past = tt
planned_past g (r ∷ rs) past = (planned_past g rs past.0, past.1)

abbrev pub with_plan : Given → List Timed → Given
with_plan g plan = record g { plan = plan }

pub next_planned : (g : Given) (plan : List Timed) (rs : List Record) (x : Next) → next_by (next_with g) (tally g) plan rs ≡ x
    → next (with_plan g plan) rs ≡ x
next_planned g plan rs x e = grind arith

pub past_planned : (g : Given) (plan : List Timed) (rs : List Record) → IsPastBy (next_with g) (tally g) plan rs → IsPast (with_plan g plan) rs
past_planned g plan [] past = tt
past_planned g plan (r ∷ rs) past = (past_planned g plan rs past.0, next_planned g plan rs (Does r) past.1)

-- whose events some plan let stand
pub past_of_some : (g : Given) (rs : List Record) → IsPast g rs → IsPastOfSome (next_with g) rs
past_of_some g [] past = tt
past_of_some g (r ∷ rs) past = (past_of_some g rs past.0, (event_after g rs, past.1))

-- records that come with some events are the past of the plan of these
pub past_of_events : (g : Given) (rs : List Record) → IsPastOfSome (next_with g) rs → IsPast (with_plan g (reached_after rs)) rs
past_of_events g rs past =
    past_planned g (reached_after rs) rs (past_of_reached (next_with g) (tally g) (heedful g) rs (counted g) past)

-- also with the event that an end reached behind them
pub past_to_end : (g : Given) (rs : List Record) (f : Finish) → IsPastOfSome (next_with g) rs
    → IsPast (with_plan g (reached_in g rs f)) rs
past_to_end g rs f past =
    past_planned g (reached_in g rs f) rs
    (past_with_end (next_with g) (tally g) (heedful g) rs f (counted g)
    (past_of_reached (next_with g) (tally g) (heedful g) rs (counted g) past))

-- and an end that comes with some event is that of the plan
pub end_of_events : (g : Given) (rs : List Record) (f : Finish) (o : Option Event) → next_with g o rs ≡ Ends f
    → next (with_plan g (reached_in g rs f)) rs ≡ Ends f
end_of_events g rs f o e =
    next_planned g (reached_in g rs f) rs (Ends f) (end_of_reached (next_with g) (tally g) (heedful g) rs f o e)
