-- What passes nothing issues at the turn at which all records are done.
use Rattle.std.proofs.Common.{◌≡◌, ℕ, ◌≤◌, Bool, true, ◌||◌, List, [], ◌∷◌, refl, ◌⊎◌, arith}
use Rattle.std.specs.Prelude.{IsTrue}
use Rattle.std.specs.List.{AllByRecursion}
use Rattle.std.proofs.lemmas.Bool.Decides.{nat_tests}
use Rattle.i9_model.specs.declared.need.Need.{Need}
use Rattle.i9_model.specs.declared.need.TimedNeed.{TimedNeed}
use Rattle.i9_model.specs.State.{State}
use Rattle.i9_model.specs.HeldFrames.{Cache, sets_in, cache_after}
use Rattle.i9_model.specs.Run.{Given, Kind, Next, Does, Ends, Record, Finish}
use Rattle.i9_model.specs.Turns.{Permits, CanIssue, IsTimed, TakesTurns, AreAllDone, last_issue, issue_turn, end_turn, waiting_until}
use Rattle.i9_model.specs.Late.{Late, turns}
use Rattle.i9_turns.proofs.TurnOpen.{timed-take_time}
use Rattle.i9_turns.proofs.TurnWhole.{timed-issues}
use Rattle.i9_turns.proofs.Barriers.{none_open, all_permit}
use Rattle.i9_turns.proofs.TurnFences.{all-end, end-least}
use Rattle.i9_course.specs.NeedOf.{need_of, is_barrier_kind}
use Rattle.i9_course.specs.Course.{Item, Step, Fence, records_of, course, issue_after, late_after, need_after, issue_of_next, last_done}
use Rattle.i9_course.proofs.Timed.{course_timed, course_costs, first_of}

-- ---- of a list of needs with their turns

-- what passes nothing waits for all
pub waits_for_all : (n : Need) (t : ℕ) (rs : List TimedNeed) → IsTrue n.barrier ⊎ IsTrue n.alone
    → AllByRecursion (Permits n t) rs → AllByRecursion (λ r. r.done ≤ t) rs
waits_for_all n t [] b h = tt
waits_for_all n t (r ∷ rs) b h = (h.0.alone b, waits_for_all n t rs b h.1)

-- each need may issue once all is done
pub issues_by_end : (n : Need) (rs : List TimedNeed) → IsTimed rs → TakesTurns rs → n.not_before ≤ end_turn rs
    → issue_turn (last_issue rs) rs n ≤ end_turn rs
issues_by_end n rs h c early =
    let done : AreAllDone rs (end_turn rs) = all-end rs in
    let none = none_open (end_turn rs) rs done.done in
    let can : CanIssue (last_issue rs) rs n (end_turn rs) =
    record {
      in_order = done.in_order;
      waited = early;
      each = all_permit n (end_turn rs) rs (timed-take_time rs h c) done.done;
      room = λ q. omega (arith, none);
    } in
    (timed-issues rs n h).least (end_turn rs) can

-- so what passes nothing waits for no more
pub barrier_turn : (n : Need) (rs : List TimedNeed) → IsTimed rs → TakesTurns rs → IsTrue n.barrier
    → n.not_before ≤ end_turn rs → issue_turn (last_issue rs) rs n ≡ end_turn rs
barrier_turn n rs h c b early = grind (arith, timed-issues, issues_by_end, end-least, waits_for_all)

-- ---- fences

end_later : (r : TimedNeed) (rs : List TimedNeed) → last_issue rs ≤ r.issue → end_turn rs ≤ end_turn (r ∷ rs)
end_later r rs le =
    let all : AreAllDone (r ∷ rs) (end_turn (r ∷ rs)) = all-end (r ∷ rs) in
    let order : r.issue ≤ end_turn (r ∷ rs) = all.in_order in
    end-least rs (end_turn (r ∷ rs)) (record { in_order = omega (arith, le, order); done = all.done.1 })

-- the last fence asks for no turn above that at which all is done
pub fence_reached : (g : Given) (h : List Item) → (course g h).fence ≤ end_turn (turns (course g h).late)
fence_reached g [] = omega arith
fence_reached g (Fence ∷ h) = omega arith
fence_reached g (Step r ∷ h) =
    let x = late_after g h r in
    let rest : (course g h).fence ≤ end_turn (turns (course g h).late) = fence_reached g h in
    let more : end_turn (turns (course g h).late) ≤ end_turn (x.timed ∷ turns (course g h).late) =
    end_later x.timed (turns (course g h).late) (course_timed g (Step r ∷ h)).0.issue.can.in_order in
    omega (arith, rest, more)

-- the last record is done by then
pub last_reached : (xs : List Late) → last_done xs ≤ end_turn (turns xs)
last_reached xs = grind (arith, all-end)

-- ---- what comes next

pub barrier_after : (g : Given) (h : List Item) (n : Need) → IsTrue n.barrier → n.not_before ≡ 0
    → issue_after (course g h) n ≡ end_turn (turns (course g h).late)
barrier_after g h n b none =
    let reached = fence_reached g h in
    barrier_turn (waiting_until (course g h).fence n) (turns (course g h).late) (course_timed g h) (course_costs g h) b
    (omega (arith, none, reached))

-- no record waits for a turn of its own
pub need_unbound : (n : ℕ) (c : Cache) (s : State) (k : Kind) → (need_of n c s k).not_before ≡ 0
unfolding need_of
need_unbound n c s k = grind arith

next_unbound : (g : Given) (h : List Item) (o : Next) → (need_after g h o).not_before ≡ 0
next_unbound g h o = grind (arith, need_unbound)

-- whatever comes next issues no later than that
pub next_by_end : (g : Given) (h : List Item) (o : Next)
    → issue_of_next g h o ≤ end_turn (turns (course g h).late)
next_by_end g h o =
    let reached = fence_reached g h in
    let none = next_unbound g h o in
    issues_by_end (waiting_until (course g h).fence (need_after g h o)) (turns (course g h).late) (course_timed g h)
    (course_costs g h) (omega (arith, none, reached))

pub next_barrier : (g : Given) (h : List Item) (o : Next) → IsTrue (need_after g h o).barrier
    → issue_of_next g h o ≡ end_turn (turns (course g h).late)
next_barrier g h o b = barrier_after g h (need_after g h o) b (next_unbound g h o)

-- ---- which do

by_fault : (a b c d e f : Bool) → (d || a) ≡ true → (a || b || c || d || e || f) ≡ true
by_fault a b c d e f h = grind (arith, nat_tests, h)

pub kind_barrier : (n : ℕ) (c : Cache) (s : State) (k : Kind) → IsTrue (is_barrier_kind k)
    → IsTrue (need_of n c s k).barrier
unfolding need_of
kind_barrier n c s k b = grind (arith, first_of, by_fault)

pub record_barrier : (g : Given) (h : List Item) (r : Record) → IsTrue (is_barrier_kind r.kind)
    → issue_of_next g h (Does r) ≡ end_turn (turns (course g h).late)
record_barrier g h r b = next_barrier g h (Does r)
    (kind_barrier (sets_in g.sets r.before) (cache_after g (records_of h)) r.before r.kind b)

pub end_barrier : (g : Given) (h : List Item) (f : Finish)
    → issue_of_next g h (Ends f) ≡ end_turn (turns (course g h).late)
end_barrier g h f = next_barrier g h (Ends f) refl
