-- The open records alone decide the turns of the next one.
use Rattle.std.proofs.Common.{◌≡◌, ℕ, ◌<◌, ◌≤◌, max, List, [], ◌∷◌, refl, ◌∙◌, subst, inl, inr, arith}
use Rattle.std.specs.Prelude.{IsTrue}
use Rattle.std.proofs.lemmas.Bool.{cond-true, cases_lt}
use Rattle.std.specs.List.{AllByRecursion}
use Rattle.std.proofs.lemmas.Bool.Decides.{nat_tests}
use Rattle.i9_model.specs.declared.need.Need.{Need}
use Rattle.i9_model.specs.declared.need.TimedNeed.{TimedNeed}
use Rattle.i9_model.specs.Turns.{RequestsInOrder, open_at, done_turn, last_request, last_issue, Follows, IsTimed, TakesTurns, pending_of, pending_after, FollowsOpen, IsAllDone, AreAllDone}
use Rattle.i9_turns.proofs.TurnDropped.{TakeTime, each-open, open-yes, open-no, issues-open, open-issues, done_turn-open}

-- a record is done after its turn, and a request after the one before it
pub done-after : (rs : List TimedNeed) (n : Need) (t : ℕ) → 1 ≤ n.cost → t < done_turn rs n t
done-after rs n t c = grind (arith, nat_tests)

pub request-after : (rs : List TimedNeed) (n : Need) (t : ℕ) → IsTrue n.request → last_request rs ≤ done_turn rs n t
request-after rs n t is = omega (arith, cond-true n.request (max t (last_request rs)) t is)

pub timed-take_time : (rs : List TimedNeed) → IsTimed rs → TakesTurns rs → TakeTime rs
timed-take_time [] h c = tt
timed-take_time (r ∷ rs) h c = grind (arith, done-after, timed-take_time rs h.1 c.1)

pub timed-in_order : (rs : List TimedNeed) → IsTimed rs → RequestsInOrder rs
timed-in_order [] h = tt
timed-in_order (r ∷ rs) h = grind (arith, request-after, timed-in_order rs h.1)

pub open-open : (t u : ℕ) → t ≤ u → (rs : List TimedNeed) → open_at u (open_at t rs) ≡ open_at u rs
open-open t u le [] = refl
open-open t u le (r ∷ rs) = grind (arith, nat_tests, open-open t u le rs)

-- the first law: a record that follows the open ones follows them all, and the other way round
pub follows-open : (rs : List TimedNeed) (r : TimedNeed) → IsTimed rs → TakesTurns rs → Follows rs r → FollowsOpen (pending_of rs) r
follows-open rs r h c f = grind (arith, issues-open, timed-take_time, done_turn-open, timed-in_order)

pub open-follows : (rs : List TimedNeed) (r : TimedNeed) → IsTimed rs → TakesTurns rs → FollowsOpen (pending_of rs) r → Follows rs r
open-follows rs r h c f =
    let last = last_issue rs in
    let in_order : last_issue rs ≤ r.issue = f.issue.can.in_order in
    record {
      issue = open-issues last last rs r.need r.issue (omega arith) (timed-take_time rs h c) f.issue;
      done = f.done ∙ done_turn-open last r.issue in_order rs r.need (timed-in_order rs h);
    }

pub pending-next : (rs : List TimedNeed) (r : TimedNeed) → r.issue < r.done → last_issue rs ≤ r.issue → pending_of (r ∷ rs) ≡ pending_after (pending_of rs) r
pending-next rs r time in_order = grind (arith, open-yes, open-open)

-- ---- the least turn at which all is done

pub done-open : (u t : ℕ) → u ≤ t → (rs : List TimedNeed) → AllByRecursion (λ r. r.done ≤ t) (open_at u rs) → AllByRecursion (λ r. r.done ≤ t) rs
done-open u t le [] h = tt
done-open u t le (r ∷ rs) h =
    elim (cases_lt u r.done) [
      | inl later ↦ let k = subst (AllByRecursion (λ r. r.done ≤ t)) (open-yes u r rs later) h in (k.0, done-open u t le rs k.1)
      | inr over ↦ let k = subst (AllByRecursion (λ r. r.done ≤ t)) (open-no u r rs over) h in (omega arith, done-open u t le rs k)
    ]

pub all_done-open : (rs : List TimedNeed) (t : ℕ) → AreAllDone rs t → IsAllDone (pending_of rs) t
all_done-open rs t h = record { in_order = h.in_order; done = each-open (λ r. r.done ≤ t) (last_issue rs) rs h.done }

pub open-all_done : (rs : List TimedNeed) (t : ℕ) → IsAllDone (pending_of rs) t → AreAllDone rs t
open-all_done rs t h = grind (arith, done-open)
