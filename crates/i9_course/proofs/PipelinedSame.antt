-- Pipelined runs of a plan by counts are the same with any number of sets; and each pipelined run is that of the events alone that
-- it reached, each at its count.
use Rattle.std.proofs.Common.{◌≡◌, ℕ, List, [], ◌∷◌, ◌++◌, Option, refl, sym, ◌∙◌, ◌↔◌, inl, inr, subst, arith}
use Rattle.i9_model.specs.declared.event.Timed.{Timed}
use Rattle.i9_model.specs.State.{State}
use Rattle.i9_model.specs.ScheduleText.{IsByCounts}
use Rattle.i9_model.specs.Run.{Given, Kind, Record, reached_by, reached_after, state_after, Finish, reached_in}
use Rattle.i9_past.proofs.Cuts.{state_by, next_by_state}
use Rattle.i9_past.proofs.Heedful.{with_plan, past_to_end}
use Rattle.i9_course.specs.Course.{comes_next, imprecise_at}
use Rattle.i9_course.specs.PipelinedRun.{steps, IsPipelinedPast, finish_by, IsPipelinedRun}
use Rattle.i9_course.proofs.PipelinedRuns.{steps_counted, late_by, late_of_past, pipelined_past, pipelined_run, run_ends, imprecise_run, precise_run, run_cases, late_events}
use Rattle.i9_course.proofs.PipelinedAlike.{imprecise_same}

-- ---- sets

abbrev with_sets : Given → Option ℕ → Given
with_sets g asked = record g { sets = asked }

next_sets : (g : Given) (asked : Option ℕ) (rs : List Record) → IsByCounts g.plan
    → comes_next (with_sets g asked) (steps rs) ≡ comes_next g (steps rs)
next_sets g asked rs counted =
    let k = with_sets g asked in
    cc (
      steps_counted k rs counted,
      next_by_state k rs (state_after g rs) (state_by g k rs refl),
      steps_counted g rs counted,
    )

pub imprecise_sets : (g : Given) (asked : Option ℕ) (rs : List Record)
    → imprecise_at (with_sets g asked) (steps rs) ≡ imprecise_at g (steps rs)
imprecise_sets g asked rs = imprecise_same g (with_sets g asked) rs refl

more_sets : (g : Given) (asked : Option ℕ) (rs : List Record) → IsByCounts g.plan → IsPipelinedPast g rs
    → IsPipelinedPast (with_sets g asked) rs
more_sets g asked rs counted late =
    late_by g (with_sets g asked) rs (λ qs none. imprecise_sets g asked qs ∙ none)
    (λ qs r before is. next_sets g asked qs counted ∙ is) late

less_sets : (g : Given) (asked : Option ℕ) (rs : List Record) → IsByCounts g.plan → IsPipelinedPast (with_sets g asked) rs
    → IsPipelinedPast g rs
less_sets g asked rs counted late =
    late_by (with_sets g asked) g rs (λ qs none. sym (imprecise_sets g asked qs) ∙ none)
    (λ qs r before is. sym (next_sets g asked qs counted) ∙ is) late

pub late_sets : (g : Given) (asked : Option ℕ) (rs : List Record) → IsByCounts g.plan
    → (IsPipelinedPast (with_sets g asked) rs ↔ IsPipelinedPast g rs)
late_sets g asked rs counted = (less_sets g asked rs counted, more_sets g asked rs counted)

ends_sets : (g : Given) (asked : Option ℕ) (rs : List Record) → IsByCounts g.plan
    → finish_by (imprecise_at (with_sets g asked) (steps rs)) (comes_next (with_sets g asked) (steps rs))
    ≡ finish_by (imprecise_at g (steps rs)) (comes_next g (steps rs))
ends_sets g asked rs counted = grind (arith, imprecise_sets, next_sets)

pub run_sets : (g : Given) (asked : Option ℕ) (rs : List Record) (f : Finish) → IsByCounts g.plan
    → (IsPipelinedRun (with_sets g asked) rs f ↔ IsPipelinedRun g rs f)
run_sets g asked rs f counted = (
  (λ run. record { past = less_sets g asked rs counted run.past; ends = sym (ends_sets g asked rs counted) ∙ run.ends }),
  (λ run. record { past = more_sets g asked rs counted run.past; ends = ends_sets g asked rs counted ∙ run.ends }),
)

-- ---- plans

pub imprecise_plan : (g : Given) (plan : List Timed) (rs : List Record)
    → imprecise_at (with_plan g plan) (steps rs) ≡ imprecise_at g (steps rs)
imprecise_plan g plan rs = imprecise_same g (with_plan g plan) rs refl

-- what is reached is reached at a count
reached_counted : (k : Kind) (s : State) → IsByCounts (reached_by k s)
reached_counted k s = grind arith

both_counted : (ts us : List Timed) → IsByCounts ts → IsByCounts us → IsByCounts (ts ++ us)
both_counted [] us a b = b
both_counted (t ∷ ts) us a b = (a.0, both_counted ts us a.1 b)

pub all_counted : (rs : List Record) → IsByCounts (reached_after rs)
all_counted [] = tt
all_counted (r ∷ rs) = both_counted (reached_after rs) (reached_by r.kind r.before) (all_counted rs) (reached_counted r.kind r.before)

pub late_again : (g : Given) (rs : List Record) → IsPipelinedPast g rs → IsPipelinedPast (with_plan g (reached_after rs)) rs
late_again g rs late =
    let plan = reached_after rs in
    late_of_past g (with_plan g plan) rs (λ qs none. imprecise_plan g plan qs ∙ none) (all_counted rs) (pipelined_past g rs late) late

pub in_counted : (g : Given) (rs : List Record) (f : Finish) → IsByCounts (reached_in g rs f)
in_counted g rs f = grind (arith, both_counted, all_counted)

late_to_end : (g : Given) (rs : List Record) (f : Finish) → IsPipelinedPast g rs → IsPipelinedPast (with_plan g (reached_in g rs f)) rs
late_to_end g rs f late =
    let plan = reached_in g rs f in
    late_of_past g (with_plan g plan) rs (λ qs none. imprecise_plan g plan qs ∙ none) (in_counted g rs f)
    (past_to_end g rs f (late_events g rs late)) late

pub run_again : (g : Given) (rs : List Record) (f : Finish) → IsPipelinedRun g rs f
    → IsPipelinedRun (with_plan g (reached_in g rs f)) rs f
run_again g rs f run =
    let plan = reached_in g rs f in
    let late = late_to_end g rs f run.past in
    elim (run_cases g rs f run) [
      | inl plain ↦
          precise_run (with_plan g plan) rs f late (imprecise_plan g plan rs ∙ (run_ends g rs f plain run).0)
          (steps_counted (with_plan g plan) rs (in_counted g rs f) ∙ (pipelined_run g rs f plain run).ends)
      | inr fault ↦
          subst (λ (k : Finish). IsPipelinedRun (with_plan g plan) rs k) (sym fault.1)
          (imprecise_run (with_plan g plan) rs fault.0 late (imprecise_plan g plan rs ∙ fault.2))
    ]
