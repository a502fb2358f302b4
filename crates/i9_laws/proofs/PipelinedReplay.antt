-- The events that a run reached whose results land late, each at its count, are those of a schedule; its printed text says
-- them, and with them and any number of sets it is the same run.
use Rattle.std.proofs.Common.{◌≡◌, ℕ, ◌<◌, ◌≤◌, true, List, [], ◌∷◌, ◌++◌, length, Option, Some, None, refl, sym, ◌∙◌, subst, inl, inr, length-append, arith, ap}
use Rattle.std.specs.List.{AllByRecursion}
use Rattle.i9_laws.proofs.EventCases.{planned}
use Rattle.i9_replay.proofs.Plans.{AreOfVersion-push, AllTimedInRange-push, InOrder-push, last_time, last_time-push}
use Rattle.i9_past.proofs.Unique.{does_is, ends_is}
use Rattle.i9_model.specs.declared.event.Event.{Event}
use Rattle.i9_model.specs.declared.event.Timed.{Timed}
use Rattle.i9_model.specs.declared.layout.TheConstants.{MAX_LENGTH}
use Rattle.i9_model.specs.declared.run.End.{End}
use Rattle.i9_model.specs.Events.{IsInRange, IsOfVersion}
use Rattle.i9_model.specs.ScheduleText.{timed_at, IsVersion, AreOfVersion, IsTimedInRange, InOrder, IsPlan}
use Rattle.i9_model.specs.Run.{Given, Record, Does, next_with, reached_after, state_after, Finish, Ends, finish, reached_last, reached_in}
use Rattle.i9_model.specs.PrintedText.{run_text}
use Rattle.i9_past.proofs.Heedful.{heedful, counted, with_plan}
use Rattle.i9_past.proofs.Left.{standing_by_place}
use Rattle.i9_course.specs.Course.{records_of, event_ahead, instruction_turn, comes_next}
use Rattle.i9_course.specs.PipelinedRun.{steps, IsPipelinedPast, IsPipelinedRun}
use Rattle.i9_course.proofs.PipelinedRuns.{records_of-steps, next_of_steps, late_next, late_within, run_cases, run_ends}
use Rattle.i9_course.proofs.PipelinedSame.{run_again, run_sets, in_counted}
use Rattle.i9_laws.proofs.RunsAgain.{SaysReached, text_says}
use Rattle.std.proofs.lemmas.List.{append-nil}

-- ---- along a pipelined run

-- a schedule of a version that may have the events of the plan may have these
abbrev KeepsVersion : Given → List Timed → Type 0
KeepsVersion g ts = (version : ℕ) → AreOfVersion version g.plan → AreOfVersion version ts

-- events are in range and in order, and no more than the plan has
record FitsTo (g : Given) (ts : List Timed) : Type 0 where
  each : AllByRecursion IsTimedInRange ts
  order : InOrder 0 ts
  few : length ts ≤ length g.plan
  version : KeepsVersion g ts

-- so are those that were reached, and none is at a count that has not come
abbrev Fits : Given → List Record → Type 0
Fits g rs = FitsTo g (reached_after rs) × (last_time 0 (reached_after rs) ≤ (state_after g rs).count)

same_fits : (g : Given) (rs : List Record) (r : Record) → Fits g rs → reached_after (r ∷ rs) ≡ reached_after rs
    → (state_after g rs).count ≤ r.after.count → Fits g (r ∷ rs)
same_fits g rs r f same grows =
    let last = f.1 in (
      subst (FitsTo g) (sym same) f.0,
      subst (λ (ts : List Timed). last_time 0 ts ≤ r.after.count) (sym same)
          (omega (arith, last, grows)),
    )

-- the event that stands is one of the plan, at the place behind those that were reached
stands : (g : Given) (rs : List Record) (e : Event) → IsPlan g.plan → event_ahead g (steps rs) ≡ Some e
    → IsInRange e × (length (reached_after rs) < length g.plan) × ((version : ℕ) → AreOfVersion version g.plan → IsOfVersion version e)
stands g rs e plan at =
    let past = records_of (steps rs) in
    let there =
    standing_by_place g.plan (length (reached_after past)) (state_after g past).count (instruction_turn g (steps rs)) e at in
    let p = planned IsTimedInRange g.plan (length (reached_after past)) there.0 plan.each there.1 in (
      subst IsInRange there.2 p.0.event,
      subst (λ (qs : List Record). length (reached_after qs) < length g.plan) (records_of-steps rs) p.1,
      λ version of. subst (IsOfVersion version) there.2
          (planned (λ (t : Timed). IsOfVersion version t.event) g.plan (length (reached_after past)) there.0 of there.1).0,
    )

-- and one more behind them, which stands
push_fits : (g : Given) (rs : List Record) (e : Event) → IsPlan g.plan → g.length ≤ MAX_LENGTH → IsPipelinedPast g rs
    → event_ahead g (steps rs) ≡ Some e → Fits g rs
    → FitsTo g (reached_after rs ++ timed_at (state_after g rs).count e ∷ [])
push_fits g rs e plan short past at f =
    let ts = reached_after rs in
    let t = timed_at (state_after g rs).count e in
    let one = stands g rs e plan at in
    let room = one.1 in
    let within = late_within g rs past in
    let most : MAX_LENGTH ≡ 10000000 = refl in
    let long = length-append ts (t ∷ []) in
    record {
      each = AllTimedInRange-push ts t f.0.each (record { time = omega (arith, within, short, most); event = one.0 });
      order = InOrder-push 0 ts t f.0.order f.1;
      few = omega (arith, long, room);
      version = λ version plan. AreOfVersion-push version ts t (f.0.version version plan) (one.2 version plan);
    }

fits : (g : Given) (rs : List Record) → IsPlan g.plan → g.length ≤ MAX_LENGTH → IsPipelinedPast g rs → Fits g rs
fits g [] plan short past =
    (record { each = tt; order = tt; few = omega arith; version = λ version of. tt }, omega arith)
fits g (r ∷ rs) plan short past =
    by_event (fits g rs plan short past.0) (event_ahead g (steps rs)) refl (sym (next_of_steps g rs) ∙ late_next g rs r past)
  where
    by_event : Fits g rs → (o : Option Event) → event_ahead g (steps rs) ≡ o → next_with g o rs ≡ Does r → Fits g (r ∷ rs)
    by_event before None at is = same_fits g rs r before ((heedful g).quiet rs r is) ((counted g).grows None rs r is)
    by_event before (Some e) at is =
        let grows = (counted g).grows (Some e) rs r is in
        elim ((heedful g).heard rs e) [
          | inl same ↦ same_fits g rs r before ((heedful g).quiet rs r (sym same ∙ is)) grows
          | inr (inl found) ↦
              let t = timed_at (state_after g rs).count e in
              let grown = subst (λ (x : Record). reached_after (x ∷ rs) ≡ reached_after rs ++ t ∷ []) (does_is found.0 r (sym found.1 ∙ is)) found.2 in
              let more = push_fits g rs e plan short past.0 at before in
              let last = λ (ts : List Timed). last_time 0 ts ≤ r.after.count in
              let before_it = subst (λ (n : ℕ). n ≤ r.after.count) (sym (last_time-push 0 (reached_after rs) t))
              grows in
              (subst (FitsTo g) (sym grown) more, subst last (sym grown) before_it)
          | inr (inr ends) ↦ absurd (cc (sym ends.1 ∙ is))
        ]

fits_none : (g : Given) (rs : List Record) → Fits g rs → FitsTo g (reached_after rs ++ [])
fits_none g rs f = subst (FitsTo g) (sym (append-nil (reached_after rs))) f.0

-- an end that comes next reached nothing, or the event that stood there
end_fits : (g : Given) (rs : List Record) (f : Finish) → IsPlan g.plan → g.length ≤ MAX_LENGTH → IsPipelinedPast g rs
    → comes_next g (steps rs) ≡ Ends f → FitsTo g (reached_in g rs f)
end_fits g rs f plan short past ends = by_event (event_ahead g (steps rs)) refl (sym (next_of_steps g rs) ∙ ends)
  where
    count : ℕ
    count = (state_after g rs).count

    silent : f.event ≡ None → FitsTo g (reached_in g rs f)
    silent none =
        subst (λ (x : Option Event). FitsTo g (reached_after rs ++ reached_last count x)) (sym none)
        (fits_none g rs (fits g rs plan short past))

    by_event : (o : Option Event) → event_ahead g (steps rs) ≡ o → next_with g o rs ≡ Ends f
        → FitsTo g (reached_in g rs f)
    by_event None at is = silent ((heedful g).silent rs f is)
    by_event (Some e) at is = elim ((heedful g).heard rs e) [
      | inl same ↦ silent ((heedful g).silent rs f (sym same ∙ is))
      | inr (inl found) ↦ absurd (cc (sym found.1 ∙ is))
      | inr (inr found) ↦
          let one : found.0 ≡ f = ends_is found.0 f (sym found.1 ∙ is) in
          let reached : f.event ≡ Some e = ap (λ (x : Finish). x.event) (sym one) ∙ found.2 in
          subst (λ (x : Option Event). FitsTo g (reached_after rs ++ reached_last count x)) (sym reached)
          (push_fits g rs e plan short past at (fits g rs plan short past))
    ]

run_fits : (g : Given) (rs : List Record) (f : Finish) → IsPlan g.plan → g.length ≤ MAX_LENGTH → IsPipelinedRun g rs f
    → FitsTo g (reached_in g rs f)
run_fits g rs f plan short run = elim (run_cases g rs f run) [
  | inl plain ↦ end_fits g rs f plan short run.past (run_ends g rs f plain run).1
  | inr fault ↦
      subst (λ (k : Finish). FitsTo g (reached_in g rs k)) (sym fault.1)
      (fits_none g rs (fits g rs plan short run.past))
]

fit_plan : (g : Given) (rs : List Record) (f : Finish) → IsPlan g.plan → FitsTo g (reached_in g rs f)
    → IsPlan (reached_in g rs f)
fit_plan g rs f plan fit =
    let few = fit.few in
    let most = plan.few in
    record { each = fit.each; order = fit.order; few = omega (arith, few, most); alike = (true, in_counted g rs f) }

-- ---- its text, and the run of what it reached

pub late_text : (version : ℕ) (g : Given) (rs : List Record) (f : Finish) → IsVersion version → IsPlan g.plan → AreOfVersion version g.plan
    → g.length ≤ MAX_LENGTH → IsPipelinedRun g rs f → SaysReached version g rs f
late_text version g rs f is plan of short run =
    let fit = run_fits g rs f plan short run in
    text_says version g rs f is (fit_plan g rs f plan fit) (fit.version version of)

pub late_cut : (version : ℕ) (g : Given) (rs : List Record) (e : End) → IsVersion version → IsPlan g.plan → AreOfVersion version g.plan
    → g.length ≤ MAX_LENGTH → IsPipelinedPast g rs → SaysReached version g rs (finish e)
late_cut version g rs e is plan of short past =
    let fit = fits_none g rs (fits g rs plan short past) in
    text_says version g rs (finish e) is (fit_plan g rs (finish e) plan fit) (fit.version version of)

placed_text : (g : Given) (asked : Option ℕ) (plan : List Timed) (rs : List Record) (f : Finish)
    → run_text (record g { plan = plan; sets = asked }) rs f ≡ run_text g rs f
placed_text g asked plan [] f = refl
placed_text g asked plan (r ∷ rs) f = refl

pub late_again : (g : Given) (asked : Option ℕ) (rs : List Record) (f : Finish) → IsPipelinedRun g rs f
    → IsPipelinedRun (record g { plan = reached_in g rs f; sets = asked }) rs f
    × (run_text (record g { plan = reached_in g rs f; sets = asked }) rs f ≡ run_text g rs f)
late_again g asked rs f run = (
  (run_sets (with_plan g (reached_in g rs f)) asked rs f (in_counted g rs f)).1 (run_again g rs f run),
  placed_text g asked (reached_in g rs f) rs f,
)
