-- What is pending stands for all records.
use Rattle.std.proofs.Common.{◌≡◌, ℕ, ◌≤◌, List, [], ◌∷◌, refl, sym, ap, ◌∙◌, subst, arith}
use Rattle.i9_model.specs.declared.need.Need.{Need}
use Rattle.i9_model.specs.declared.need.TimedNeed.{TimedNeed}
use Rattle.i9_model.specs.Turns.{IssuesAt, IsAllDone, AreAllDone, IsTimed, TakesTurns, Follows, FollowsOpen, Pending, pending_of, pending_after, last_issue, issue_turn, with_need, end_turn, StandsFor}
use Rattle.i9_turns.proofs.TurnDropped.{open-issues, issues-once}
use Rattle.i9_turns.proofs.TurnWhole.{follows-with_need, timed-issues}
use Rattle.i9_turns.proofs.TurnFences.{all-end, end-least}
use Rattle.i9_turns.proofs.TurnOpen.{open-follows, pending-next, timed-take_time, open-all_done, all_done-open}

pub stands-none : StandsFor (pending_of []) []
stands-none = record { timed = tt; costs = tt; pending = refl }

pub stands-issues : (p : Pending) (rs : List TimedNeed) (n : Need) (t : ℕ) → StandsFor p rs → IssuesAt p.last p.records n t → IssuesAt (last_issue rs) rs n t
stands-issues p rs n t s h =
    let P : Pending → Type 0 = λ q. IssuesAt q.last q.records n t in
    open-issues (last_issue rs) (last_issue rs) rs n t (omega arith) (timed-take_time rs s.timed s.costs) (subst P s.pending h)

pub stands-next : (p : Pending) (rs : List TimedNeed) (r : TimedNeed) → StandsFor p rs → FollowsOpen p r → 1 ≤ r.need.cost → StandsFor (pending_after p r) (r ∷ rs)
stands-next p rs r s f c =
    let follows : Follows rs r = open-follows rs r s.timed s.costs (subst (λ q. FollowsOpen q r) s.pending f) in
    let timed : IsTimed (r ∷ rs) = (follows, s.timed) in
    let costs : TakesTurns (r ∷ rs) = (c, s.costs) in
    record {
      timed = timed;
      costs = costs;
      pending = ap (λ q. pending_after q r) s.pending ∙ sym (pending-next rs r (timed-take_time (r ∷ rs) timed costs).0 follows.issue.can.in_order);
    }

pub stands-all_done : (p : Pending) (rs : List TimedNeed) (t : ℕ) → StandsFor p rs → IsAllDone p t → AreAllDone rs t
stands-all_done p rs t s h = open-all_done rs t (subst (λ q. IsAllDone q t) s.pending h)

pub all_done-stands : (p : Pending) (rs : List TimedNeed) (t : ℕ) → StandsFor p rs → AreAllDone rs t → IsAllDone p t
all_done-stands p rs t s h = subst (λ q. IsAllDone q t) (sym s.pending) (all_done-open rs t h)

-- the placed record is the one that is computed
pub stands-with_need : (p : Pending) (rs : List TimedNeed) (r : TimedNeed) → StandsFor p rs → FollowsOpen p r → r ∷ rs ≡ with_need rs r.need
stands-with_need p rs r s f =
    let follows : Follows rs r = open-follows rs r s.timed s.costs (subst (λ q. FollowsOpen q r) s.pending f) in
    follows-with_need rs r s.timed follows

pub stands-issue_turn : (p : Pending) (rs : List TimedNeed) (n : Need) (t : ℕ) → StandsFor p rs → IssuesAt p.last p.records n t → t ≡ issue_turn (last_issue rs) rs n
stands-issue_turn p rs n t s h =
    issues-once (last_issue rs) rs n t (issue_turn (last_issue rs) rs n) (stands-issues p rs n t s h) (timed-issues rs n s.timed)

pub stands-end : (p : Pending) (rs : List TimedNeed) (t : ℕ) → StandsFor p rs → IsAllDone p t → ((u : ℕ) → IsAllDone p u → t ≤ u) → t ≡ end_turn rs
stands-end p rs t s a least =
    let b : AreAllDone rs t = stands-all_done p rs t s a in
    let c : AreAllDone rs (end_turn rs) = all-end rs in
    let le : t ≤ end_turn rs = least (end_turn rs) (all_done-stands p rs (end_turn rs) s c) in
    let ge : end_turn rs ≤ t = end-least rs t b in
    omega arith
