-- Going back from a place of a run without marks leads to one place, and what was asked before it.
use Rattle.std.proofs.Common.{◌≡◌, ℕ, ◌-◌, ◌<◌, ◌≤◌, ◌&&◌, Bool, true, false, nat_eq, nat_lt, List, [], ◌∷◌, ◌++◌, Option, Some, None, Result, Ok, Err, OnOk, OnErr, IfOk, refl, sym, ap, ◌∙◌, subst, inl, inr, arith}
use Rattle.std.specs.List.{AllByRecursion}
use Rattle.std.proofs.Math.Bool.{and-false}
use Rattle.std.proofs.lemmas.Bool.{and_parts, lt-ltb, le-ltb, cases_Bool}
use Rattle.i9_model.specs.declared.view.View.{View}
use Rattle.i9_model.specs.Image.{Part}
use Rattle.i9_model.specs.PrintedText.{view_of}
use Rattle.i9_model.specs.Run.{Given, Record, counts_of, state_after, Finish}
use Rattle.i9_course.specs.Course.{Item, records_of}
use Rattle.i9_course.specs.PipelinedRun.{steps, IsPipelinedPast}
use Rattle.i9_course.proofs.PipelinedRuns.{records_of-steps}
use Rattle.i9_schedule.specs.Plan.{Plan}
use Rattle.i9_machine.specs.declared.machine.Machine.{Machine}
use Rattle.i9_machine.specs.StandsFor.{FollowsUntil}
use Rattle.i9_back.specs.declared.trail.Trail.{Trail}
use Rattle.i9_back.specs.Earlier.{HasInstructions, IsEarlier, issue_of}
use Rattle.i9_back.specs.Trail.{IsTrail}
use Rattle.i9_back.specs.Stands.{StandsEarlier, StaysAt, last_change, IsLastChange}
use Rattle.i9_back.proofs.Earlier.{record_after, one_or_none, none_done, at_or_below, one_earlier, has_earlier}
use Rattle.i9_tracer.proofs.Untils.{Shows}
use Rattle.i9_debug.specs.Last.{IsLast, IsLastIn}
use Rattle.i9_debug.specs.Session.{Place, at, comes_to, count_at, IsBack, last_arrival}
use Rattle.i9_debug.specs.Driven.{StandsAt, IsOf, IsPlace, IsDebugged, GoneBack, given_of, target}
use Rattle.i9_debug.proofs.Places.{comes_as_told, comes_not}

-- ---- what is given

-- what is given goes by the events of a schedule alone
pub given_kept : (image : List Part) (sets : Option ℕ) (was plan : Plan) → plan.events ≡ was.events
    → given_of image sets plan ≡ given_of image sets was
given_kept image sets was plan events = rw events refl

pub same_given : (image : List Part) (sets : Option ℕ) (g : Given) (plan : Plan) → IsOf image sets g → plan.events ≡ g.plan
    → given_of image sets plan ≡ g
same_given image sets g plan of events = rw events (sym of)

-- so what is kept on the way of a schedule is on that of another with the same events
pub trail_of : (image : List Part) (sets : Option ℕ) (g : Given) (was plan : Plan) (t : Trail) → was.events ≡ g.plan
    → plan.events ≡ g.plan → IsTrail (given_of image sets was) t → IsTrail (given_of image sets plan) t
trail_of image sets g was plan t before events kept = rw (given_kept image sets was plan (events ∙ sym before)) kept

-- ---- each earlier state is one place

pub one_back : (g : Given) (c : ℕ) (q r : Place) → IsBack g c q → IsBack g c r → q ≡ r
one_back g c q r a b =
    a.is ∙ ap (λ (rs : List Record). at (steps rs) (issue_of g rs)) (one_earlier g c a.records b.records a.earlier b.earlier) ∙ sym b.is

some_back : (g : Given) (c : ℕ) → HasInstructions g c → (q : Place) × IsBack g c q
some_back g c has =
    let e = has_earlier g c has in
    (at (steps e.0) (issue_of g e.0), record { records = e.0; earlier = e.1; is = refl })

-- and so are the items there
pub back_place : (g : Given) (c : ℕ) (q : Place) → IsBack g c q → IsPlace g q
back_place g c q b =
    subst (IsPlace g) (sym b.is) (record { records = b.records; are = refl; past = b.earlier.past; begun = omega arith })

-- what a place counts is what its records do
place_count : (g : Given) (p : Place) → (is : IsPlace g p) → count_at g p ≡ (state_after g is.records).count
place_count g p is =
    ap (λ h. (state_after g (records_of h)).count) is.are ∙ ap (λ (qs : List Record). (state_after g qs).count) (records_of-steps is.records)

-- a place has as many instructions as it counts, and fewer
pub place_has : (g : Given) (p : Place) (c : ℕ) → IsPlace g p → c ≤ count_at g p → HasInstructions g c
place_has g p c is le =
    let same : count_at g p ≡ (state_after g is.records).count = place_count g p is in
    record { records = is.records; past = is.past; reaches = omega (arith, le, same) }

-- what is arrived at last lies before
pub arrival_below : (a n : ℕ) (rs : List Record) → last_arrival a n rs ≤ n
arrival_below a n [] = omega arith
arrival_below a n (r ∷ rs) = elim (cases_Bool (comes_to a r && nat_lt r.after.count n)) [
  | inl there ↦ let low = (and_parts (comes_to a r) (nat_lt r.after.count n) there).1 in rw there (grind (arith, low))
  | inr other ↦ rw other (arrival_below a n rs)
]

-- so each command that goes back has a place
pub back_leads : (g : Given) (p : Place) (k : ℕ) → IsPlace g p → (q : Place) × IsBack g (count_at g p - k) q
back_leads g p k is = some_back g (count_at g p - k) (place_has g p (count_at g p - k) is (omega arith))

pub last_leads : (g : Given) (p : Place) (a : ℕ) → IsPlace g p → (q : Place) × IsBack g (last_arrival a (count_at g p) (records_of p.items)) q
last_leads g p a is =
    let c = last_arrival a (count_at g p) (records_of p.items) in
    some_back g c (place_has g p c is (arrival_below a (count_at g p) (records_of p.items)))

-- ---- behind the last instruction of a place nothing arrives anywhere, and no step of an instruction changes a byte

-- records that are no instructions
abbrev NoneCounts : List Record → Type 0
NoneCounts zs = AllByRecursion (λ r. counts_of r.kind ≡ 0) zs

-- the last instruction of records, and those behind it
last_of : (g : Given) (n : ℕ) (qs : List Record) → IsPipelinedPast g qs → (state_after g qs).count ≡ n
    → (zs : List Record) × (rs : List Record) × IsEarlier g n rs × (zs ++ rs ≡ qs) × NoneCounts zs
last_of g n [] late is = ([], [], record { past = tt; last = sym is ∙ none_done g }, refl, tt)
last_of g n (r ∷ rs) late is =
    let count = (record_after g rs r late).1 in
    elim (one_or_none r.kind) [
      | inl one ↦ ([], r ∷ rs, record { past = late; last = (one, is) }, refl, tt)
      | inr none ↦
          let before : (state_after g rs).count ≡ n = omega (arith, count, none, is) in
          let on = last_of g n rs late.0 before in
          (r ∷ on.0, on.1, on.2, ap (λ (xs : List Record). r ∷ xs) on.3, (none, on.4))
    ]

-- the records of a place are those of its earlier state, and others that are no instructions
place_earlier : (g : Given) (p : Place) (rs : List Record) → IsPlace g p → IsEarlier g (count_at g p) rs
    → (zs : List Record) × (records_of p.items ≡ zs ++ rs) × NoneCounts zs
place_earlier g p rs is earlier =
    let on = last_of g (count_at g p) is.records is.past (sym (place_count g p is)) in
    let same : on.1 ≡ rs = one_earlier g (count_at g p) on.1 rs on.2 earlier in
    (on.0, ap records_of is.are ∙ records_of-steps is.records ∙ sym on.3 ∙ ap (λ (xs : List Record). on.0 ++ xs) same, on.4)

arrival_later : (a n : ℕ) (zs rs : List Record) → NoneCounts zs → last_arrival a n (zs ++ rs) ≡ last_arrival a n rs
arrival_later a n [] rs none = refl
arrival_later a n (z ∷ zs) rs none = rw none.0 (arrival_later a n zs rs none.1)

change_later : (a : ℕ) (zs rs : List Record) → NoneCounts zs → last_change a (zs ++ rs) ≡ last_change a rs
change_later a [] rs none = refl
change_later a (z ∷ zs) rs none = rw none.0 (change_later a zs rs none.1)

pub place_arrival : (g : Given) (p : Place) (a : ℕ) (rs : List Record) → IsPlace g p → IsEarlier g (count_at g p) rs
    → last_arrival a (count_at g p) (records_of p.items) ≡ last_arrival a (count_at g p) rs
place_arrival g p a rs is earlier =
    let on = place_earlier g p rs is earlier in
    ap (last_arrival a (count_at g p)) on.1 ∙ arrival_later a (count_at g p) on.0 rs on.2

pub place_change : (g : Given) (p : Place) (a : ℕ) (rs : List Record) → IsPlace g p → IsEarlier g (count_at g p) rs
    → last_change a rs ≡ last_change a (records_of p.items)
place_change g p a rs is earlier =
    let on = place_earlier g p rs is earlier in
    sym (ap (last_change a) on.1 ∙ change_later a on.0 rs on.2)

-- ---- where a stop at an address held last is the last arrival

module _ (allows : View → Bool → Type 0) (address : ℕ) (answers : (v : View) (b : Bool) → allows v b → b ≡ nat_eq v.ip address)
    (n : ℕ) where
  -- a record is no arrival that the stop passed
  no_arrival : (r : Record) → (counts_of r.kind ≡ 1 → r.after.count < n → allows (view_of r.after) false)
      → (comes_to address r && nat_lt r.after.count n) ≡ false
  no_arrival r passed = elim (at_or_below n r.after.count) [
    | inl late ↦ rw (le-ltb _ _ late) (and-false _)
    | inr early ↦ rw (comes_not allows address answers r (λ one. passed one early)) refl
  ]

  is_arrival : (rs : List Record) (c : ℕ) → IsLast allows n rs c → c ≡ last_arrival address n rs
  is_arrival [] c is = is
  is_arrival (r ∷ rs) c (inl w) = rw (comes_as_told allows address answers r true w.0.0 w.0.2, lt-ltb _ _ w.0.1) w.1
  is_arrival (r ∷ rs) c (inr w) = rw (no_arrival r w.0) (is_arrival rs c w.1)

  pub answered_arrival : {E : Type 0} (result : Result ℕ E) (g : Given) → IfOk result (λ c. IsLastIn allows g n c)
      → IfOk result (λ c. (rs : List Record) → IsEarlier g n rs → c ≡ last_arrival address n rs)
  answered_arrival (Ok c) g is = λ rs earlier.
      is_arrival is.records c is.is ∙ ap (last_arrival address n) (one_earlier g n is.records rs is.earlier earlier)
  answered_arrival (Err e) g is = tt

-- ---- what the calls answer at a place

pub answered_change : {E : Type 0} (result : Result (Option (ℕ × ℕ)) E) (g : Given) (p : Place) (a : ℕ) (plan : Plan)
    → IsPlace g p → IfOk result (λ o. IsLastChange g (count_at g p) a o plan)
    → IfOk result (λ o. o ≡ last_change a (records_of p.items))
answered_change (Ok o) g p a plan is found = found.is ∙ place_change g p a found.records is found.earlier
answered_change (Err e) g p a plan is found = tt

-- what a call answers of the last arrival is that of the place
pub arrived : (g : Given) (p : Place) (a c : ℕ) → IsPlace g p
    → ((rs : List Record) → IsEarlier g (count_at g p) rs → c ≡ last_arrival a (count_at g p) rs)
    → c ≡ last_arrival a (count_at g p) (records_of p.items)
arrived g p a c is said =
    let e = has_earlier g (count_at g p) (place_has g p (count_at g p) is (omega arith)) in
    said e.0 e.1 ∙ sym (place_arrival g p a e.0 is e.1)

-- a run that is debugged has as many instructions as the view says, and fewer
pub debugged_has : (image : List Part) (sets : Option ℕ) (m : Machine) (plan : Plan) (view : View) (c : ℕ)
    → (r : IsDebugged image sets m plan) → Shows r.given m view → c ≤ view.count
    → HasInstructions (given_of image sets plan) c
debugged_has image sets m plan view c r shows le =
    let shown : view.count ≡ count_at r.given r.place = ap (λ (v : View). v.count) (shows r.place.items r.place.end r.stands.stands) in
    rw (same_given image sets r.given plan r.of r.stands.events)
    (place_has r.given r.place c r.is_place (omega (arith, shown, le)))

-- A machine that stands for an earlier state stands at its place. Where memory was refused, the schedule may have been
-- looked at before.
pub gone_back : {A E : Type 0} (result : Result A E) (g : Given) (c : ℕ) (before m : Machine) (was mid plan : Plan)
    → StaysAt was mid → OnOk result (StandsEarlier g c m plan) → OnErr result ((m ≡ before) × StaysAt mid plan)
    → GoneBack g c result (target before was) (target m plan)
gone_back (Ok x) g c before m was mid plan kept s none = record {
  gone = (
    at (steps s.records) (issue_of g s.records),
    record { records = s.records; earlier = s.earlier; is = refl },
    record { stands = s.stands; turn = s.turn; follows = s.follows; events = s.follows.events },
  );
  same = tt;
}
gone_back (Err e) g c before m was mid plan kept stands none =
    record { gone = tt; same = (none.0, (none.1.0 ∙ kept.0, none.1.1 ∙ kept.1)) }

follows_kept : (g : Given) (h : List Item) (f : Option Finish) (was plan : Plan) → StaysAt was plan → FollowsUntil g h f was
    → FollowsUntil g h f plan
follows_kept g h None was plan same f = record { events = same.0 ∙ f.events; place = same.1 ∙ f.place }
follows_kept g h (Some e) was plan same f = tt

-- a machine stands at a place by a schedule that stays where it is
pub stands_kept : (g : Given) (p : Place) (m : Machine) (was plan : Plan) → StaysAt was plan → StandsAt g p m was
    → StandsAt g p m plan
stands_kept g p m was plan same s = record {
  stands = s.stands;
  turn = s.turn;
  follows = follows_kept g p.items p.end was plan same s.follows;
  events = same.0 ∙ s.events;
}
