-- A run whose results land late is a run of the events that it reached, as far as it goes; it goes on to its end, and it
-- is the only one.
use Rattle.std.proofs.Common.{◌≡◌, ◌≢◌, ℕ, ◌≤◌, Bool, false, cond, List, [], ◌∷◌, ◌++◌, length, Option, Some, None, refl, sym, ap, ◌∙◌, subst, ◌⊎◌, arith}
use Rattle.i9_model.specs.declared.run.End.TheVariants.{Imprecise}
use Rattle.i9_model.specs.ScheduleText.{IsByCounts}
use Rattle.i9_model.specs.Run.{Given, Record, Next, Does, Ends, state_after, reached_after, next_with, next, IsPast, IsPastOf, IsPastOfSome, IsRun, Finish, finish, reached_in}
use Rattle.i9_past.proofs.Ends.{IsByPlan, some_within, goes_on, run_goes_on}
use Rattle.i9_past.proofs.Heedful.{with_plan, past_of_events, past_to_end, end_of_events}
use Rattle.i9_past.proofs.Left.{IsAtPlace, standing_by_place}
use Rattle.i9_past.proofs.Unique.{one_past, one_end, same_records}
use Rattle.i9_course.proofs.Orderly.{course_events, counted_next, counted_past}
use Rattle.i9_course.proofs.PlainEnds.{next_plain}
use Rattle.i9_course.specs.Course.{Step, records_of, instruction_turn, event_ahead, comes_next, late_fault, is_overtaken, imprecise_at}
use Rattle.i9_course.specs.PipelinedRun.{steps, IsPipelinedPast, finish_by, finish_after, IsPipelinedRun, is_imprecise, HaveNoLateFault}

-- ---- the records of a pipelined run

pub records_of-steps : (rs : List Record) → records_of (steps rs) ≡ rs
records_of-steps [] = refl
records_of-steps (r ∷ rs) = ap (λ (qs : List Record). r ∷ qs) (records_of-steps rs)

-- what comes next, from the records alone
pub next_of_steps : (g : Given) (rs : List Record) → comes_next g (steps rs) ≡ next_with g (event_ahead g (steps rs)) rs
next_of_steps g rs = ap (next_with g (event_ahead g (steps rs))) (records_of-steps rs)

pub late_next : (g : Given) (rs : List Record) (r : Record) → IsPipelinedPast g (r ∷ rs) → comes_next g (steps rs) ≡ Does r
late_next g rs r late = late.2

pub with_step : (g : Given) (rs : List Record) (r : Record) → IsPipelinedPast g rs → imprecise_at g (steps rs) ≡ None
    → comes_next g (steps rs) ≡ Does r → IsPipelinedPast g (r ∷ rs)
with_step g rs r late precise e = (late, precise, e)

-- each comes with the event that stood there
pub late_events : (g : Given) (rs : List Record) → IsPipelinedPast g rs → IsPastOfSome (next_with g) rs
late_events g rs late = subst (IsPastOfSome (next_with g)) (records_of-steps rs) (course_events g (steps rs) late)

-- so they are records of the run whose plan is the events that they reached
pub pipelined_past : (g : Given) (rs : List Record) → IsPipelinedPast g rs → IsPast (with_plan g (reached_after rs)) rs
pipelined_past g rs late = past_of_events g rs (late_events g rs late)

-- and, where the plan is by counts, of the run
pub late_counted : (g : Given) (rs : List Record) → IsByCounts g.plan → IsPipelinedPast g rs → IsPast g rs
late_counted g rs counted late = subst (IsPast g) (records_of-steps rs) (counted_past g (steps rs) counted late)

pub late_within : (g : Given) (rs : List Record) → IsPipelinedPast g rs → (state_after g rs).count ≤ g.length
late_within g rs late = some_within g rs (late_events g rs late)

-- where the plan is by counts, what comes next is what comes next in the run
pub steps_counted : (g : Given) (rs : List Record) → IsByCounts g.plan → comes_next g (steps rs) ≡ next g rs
steps_counted g rs counted = counted_next g (steps rs) counted ∙ ap (next g) (records_of-steps rs)

-- what is done late at one thing given is done late at another, where the same comes next there, and where no fault is
-- imprecise there either
pub late_by : (g k : Given) (rs : List Record)
    → ((qs : List Record) → imprecise_at g (steps qs) ≡ None → imprecise_at k (steps qs) ≡ None)
    → ((qs : List Record) (r : Record) → IsPipelinedPast g qs → comes_next g (steps qs) ≡ Does r → comes_next k (steps qs) ≡ Does r)
    → IsPipelinedPast g rs → IsPipelinedPast k rs
late_by g k [] precise same late = tt
late_by g k (r ∷ rs) precise same late =
    with_step k rs r (late_by g k rs precise same late.0) (precise rs late.1) (same rs r late.0 late.2)

-- or where they are records of the run there, whose plan is by counts
pub late_of_past : (g k : Given) (rs : List Record)
    → ((qs : List Record) → imprecise_at g (steps qs) ≡ None → imprecise_at k (steps qs) ≡ None)
    → IsByCounts k.plan → IsPast k rs → IsPipelinedPast g rs → IsPipelinedPast k rs
late_of_past g k [] precise counted past late = tt
late_of_past g k (r ∷ rs) precise counted past late =
    grind (arith, with_step, steps_counted, late_of_past g k rs precise counted past.0 late.0)

-- ---- its end

not_both : (a : ℕ) (e : Finish) → ◌≡◌ {A = Option Finish} (Some (finish (Imprecise a))) (Some e) → is_imprecise e.end ≢ false
not_both a e h plain = grind arith

ended_only : (o : Option ℕ) (x : Next) (e : Finish) → is_imprecise e.end ≡ false → finish_by o x ≡ Some e
    → (o ≡ None) × (x ≡ Ends e)
ended_only o x e plain h = grind (arith, not_both)

imprecise_by : (o : Option ℕ) (x : Next) (a : ℕ) → ((f : Finish) → x ≡ Ends f → is_imprecise f.end ≡ false)
    → finish_by o x ≡ Some (finish (Imprecise a)) → o ≡ Some a
imprecise_by (Some b) x a plain h = grind arith
imprecise_by None (Does r) a plain h = absurd (cc h)
imprecise_by None (Ends f) a plain h = absurd (not_both a f (sym h) (plain f refl))

-- an end is no imprecise fault, or it is one by itself
finish_cases : (o : Option ℕ) (x : Next) (f : Finish) → ((k : Finish) → x ≡ Ends k → is_imprecise k.end ≡ false)
    → finish_by o x ≡ Some f → (is_imprecise f.end ≡ false) ⊎ ((a : ℕ) × (f ≡ finish (Imprecise a)) × (o ≡ Some a))
finish_cases o x f plain h = grind arith

pub run_cases : (g : Given) (rs : List Record) (f : Finish) → IsPipelinedRun g rs f
    → (is_imprecise f.end ≡ false) ⊎ ((a : ℕ) × (f ≡ finish (Imprecise a)) × (imprecise_at g (steps rs) ≡ Some a))
run_cases g rs f run =
    finish_cases (imprecise_at g (steps rs)) (comes_next g (steps rs)) f
    (λ k is. next_plain g (event_ahead g (steps rs)) rs k (sym (next_of_steps g rs) ∙ is)) run.ends

-- where that is imprecise, a fault is
pub run_imprecise : (g : Given) (rs : List Record) (a : ℕ) → IsPipelinedRun g rs (finish (Imprecise a))
    → imprecise_at g (steps rs) ≡ Some a
run_imprecise g rs a run =
    imprecise_by (imprecise_at g (steps rs)) (comes_next g (steps rs)) a
    (λ f is. next_plain g (event_ahead g (steps rs)) rs f (sym (next_of_steps g rs) ∙ is)) run.ends

pub fault_ends : (g : Given) (rs : List Record) (a : ℕ) → imprecise_at g (steps rs) ≡ Some a
    → finish_after g rs ≡ Some (finish (Imprecise a))
fault_ends g rs a is = ap (λ (o : Option ℕ). finish_by o (comes_next g (steps rs))) is

pub imprecise_run : (g : Given) (rs : List Record) (a : ℕ) → IsPipelinedPast g rs → imprecise_at g (steps rs) ≡ Some a
    → IsPipelinedRun g rs (finish (Imprecise a))
imprecise_run g rs a late is = record { past = late; ends = fault_ends g rs a is }

-- where it is not, it is what comes next
pub run_ends : (g : Given) (rs : List Record) (e : Finish) → is_imprecise e.end ≡ false → IsPipelinedRun g rs e
    → (imprecise_at g (steps rs) ≡ None) × (comes_next g (steps rs) ≡ Ends e)
run_ends g rs e plain run = ended_only (imprecise_at g (steps rs)) (comes_next g (steps rs)) e plain run.ends

pub precise_run : (g : Given) (rs : List Record) (e : Finish) → IsPipelinedPast g rs → imprecise_at g (steps rs) ≡ None
    → comes_next g (steps rs) ≡ Ends e → IsPipelinedRun g rs e
precise_run g rs e late none is = grind arith

-- and a run of the events that were reached
pub pipelined_run : (g : Given) (rs : List Record) (e : Finish) → is_imprecise e.end ≡ false → IsPipelinedRun g rs e
    → IsRun (with_plan g (reached_in g rs e)) rs e
pipelined_run g rs e plain run = record {
  past = past_to_end g rs e (late_events g rs run.past);
  ends = end_of_events g rs e (event_ahead g (steps rs)) (sym (next_of_steps g rs) ∙ (run_ends g rs e plain run).1);
}

pub counted_run : (g : Given) (rs : List Record) (e : Finish) → IsByCounts g.plan → is_imprecise e.end ≡ false → IsPipelinedRun g rs e
    → IsRun g rs e
counted_run g rs e counted plain run = grind (arith, late_counted, steps_counted, run_ends)

-- its records are the first of that run
pub late_first : (g : Given) (rs qs : List Record) (e : Finish) (f : Finish) → IsRun (with_plan g (reached_after qs)) rs e
    → IsPipelinedRun g qs f → (more : List Record) × (more ++ qs ≡ rs)
late_first g rs qs e f run late =
    let k = with_plan g (reached_after qs) in
    let on = run_goes_on k qs (pipelined_past g qs late.past) in
    (on.0, same_records k (on.0 ++ qs) rs on.1 e on.2 run)

pub counted_first : (g : Given) (rs qs : List Record) (e : Finish) (f : Finish) → IsByCounts g.plan → IsRun g rs e → IsPipelinedRun g qs f
    → (more : List Record) × (more ++ qs ≡ rs)
counted_first g rs qs e f counted run late =
    let on = run_goes_on g qs (late_counted g qs counted late.past) in
    (on.0, same_records g (on.0 ++ qs) rs on.1 e on.2 run)

-- ---- where no arithmetic fault is raised

pub either_none : (b : Bool) (o : Option ℕ) → o ≡ None → cond b o None ≡ None
either_none b o none = grind arith

pub none_precise : (g : Given) (rs : List Record) → HaveNoLateFault rs → imprecise_at g (steps rs) ≡ None
none_precise g [] none = either_none (is_overtaken g []) None refl
none_precise g (r ∷ rs) none = either_none (is_overtaken g (Step r ∷ steps rs)) (late_fault r.kind) none.0

pub none_late : (g : Given) (rs : List Record) → IsByCounts g.plan → HaveNoLateFault rs → IsPast g rs → IsPipelinedPast g rs
none_late g [] counted none past = tt
none_late g (r ∷ rs) counted none past =
    with_step g rs r (none_late g rs counted none.1 past.0) (none_precise g rs none.1) (steps_counted g rs counted ∙ past.1)

pub none_run : (g : Given) (rs : List Record) (e : Finish) → IsByCounts g.plan → HaveNoLateFault rs → IsRun g rs e
    → IsPipelinedRun g rs e
none_run g rs e counted none run = grind (arith, precise_run, none_late, none_precise, steps_counted)

-- ---- what comes next of a pipelined run: an imprecise fault ends it

abbrev comes_by : Option ℕ → Next → Next
comes_by (Some a) o = Ends (finish (Imprecise a))
comes_by None o = o

abbrev comes_late : Given → List Record → Next
comes_late g rs = comes_by (imprecise_at g (steps rs)) (comes_next g (steps rs))

does_only : (o : Option ℕ) (x : Next) (r : Record) → comes_by o x ≡ Does r → (o ≡ None) × (x ≡ Does r)
does_only o x r h = grind arith

ends_only : (o : Option ℕ) (x : Next) (f : Finish) → comes_by o x ≡ Ends f → finish_by o x ≡ Some f
ends_only o x f h = grind arith

finish_only : (o : Option ℕ) (x : Next) (f : Finish) → finish_by o x ≡ Some f → comes_by o x ≡ Ends f
finish_only o x f h = grind arith

past_of_pipelined : (g : Given) (rs : List Record) → IsPipelinedPast g rs → IsPastOf (comes_late g) rs
past_of_pipelined g [] late = tt
past_of_pipelined g (r ∷ rs) late = grind (arith, past_of_pipelined g rs late.0)

late_of_comes : (g : Given) (rs : List Record) → IsPastOf (comes_late g) rs → IsPipelinedPast g rs
late_of_comes g [] past = tt
late_of_comes g (r ∷ rs) past = grind (arith, does_only, with_step, late_of_comes g rs past.0)

-- ---- it goes on to its end

by_plan : (g : Given) → IsByPlan g (comes_late g)
by_plan g rs r e =
    let both = does_only (imprecise_at g (steps rs)) (comes_next g (steps rs)) r e in
    let place : List Record → ℕ = λ qs. length (reached_after qs) in
    let there = subst (λ (qs : List Record). IsAtPlace g.plan (place qs) (event_ahead g (steps rs))) (records_of-steps rs)
    (standing_by_place g.plan (place (records_of (steps rs))) (state_after g (records_of (steps rs))).count (instruction_turn g (steps rs))) in
    (event_ahead g (steps rs), there, sym (next_of_steps g rs) ∙ both.1)

pub pipelined_goes_on : (g : Given) (rs : List Record) → IsPipelinedPast g rs
    → (more : List Record) × (f : Finish) × IsPipelinedRun g (more ++ rs) f
pipelined_goes_on g rs late =
    let on = goes_on g (comes_late g) (by_plan g) rs (past_of_pipelined g rs late) in
    let qs = on.0 ++ rs in
    let ends = ends_only (imprecise_at g (steps qs)) (comes_next g (steps qs)) on.1 on.3 in
    (on.0, on.1, record { past = late_of_comes g qs on.2; ends = ends })

-- ---- there is one

comes_ends : (g : Given) (rs : List Record) (f : Finish) → IsPipelinedRun g rs f → comes_late g rs ≡ Ends f
comes_ends g rs f run = finish_only (imprecise_at g (steps rs)) (comes_next g (steps rs)) f run.ends

pub pipelined_records : (g : Given) (rs qs : List Record) (e f : Finish) → IsPipelinedRun g rs e → IsPipelinedRun g qs f → rs ≡ qs
pipelined_records g rs qs e f a b =
    one_past (comes_late g) rs qs e f (past_of_pipelined g rs a.past) (comes_ends g rs e a) (past_of_pipelined g qs b.past) (comes_ends g qs f b)

pub late_end : (g : Given) (rs qs : List Record) (e f : Finish) → IsPipelinedRun g rs e → IsPipelinedRun g qs f → e ≡ f
late_end g rs qs e f a b =
    one_end (comes_late g) rs qs e f (past_of_pipelined g rs a.past) (comes_ends g rs e a) (past_of_pipelined g qs b.past) (comes_ends g qs f b)

-- nothing is done behind the end
pub none_behind : (g : Given) (rs : List Record) (q : Record) (f : Finish) → IsPipelinedRun g rs f
    → ¬ IsPipelinedPast g (q ∷ rs)
none_behind g rs q f run late = grind arith
