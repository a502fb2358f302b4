-- The turn at which a need issues is known from what is pending.
use Rattle.std.proofs.Common.{◌≡◌, ℕ, ◌≤◌, max, List, [], ◌∷◌, sym, ap, ◌∙◌, subst, inl, inr, arith}
use Rattle.std.proofs.lemmas.Bool.{cases_lt}
use Rattle.i9_model.specs.declared.need.Need.{Need}
use Rattle.i9_model.specs.declared.need.TimedNeed.{TimedNeed}
use Rattle.i9_model.specs.Turns.{Pending, RequestsInOrder, StandsFor, last_issue, last_request, issue_turn, open_at}
use Rattle.i9_turns.proofs.TurnComputed.{issue_turn-issues}
use Rattle.i9_turns.proofs.TurnDropped.{open-yes, open-no, each-open, issues-open, issues-once, max-last_request-open}
use Rattle.i9_turns.proofs.TurnOpen.{timed-take_time, timed-in_order}
use Rattle.i9_turns.proofs.TurnWhole.{timed-issued, timed-issues}

-- open requests are in order
pub open-in_order : (u : ℕ) (rs : List TimedNeed) → RequestsInOrder rs → RequestsInOrder (open_at u rs)
open-in_order u [] h = tt
open-in_order u (r ∷ rs) h =
    elim (cases_lt u r.done) [
      | inl later ↦
          let e : max u (last_request (open_at u rs)) ≡ max u (last_request rs) = max-last_request-open u u (omega arith) rs h.1 in
          subst RequestsInOrder (sym (open-yes u r rs later))
          (λ is. let le : last_request rs ≤ r.done = h.0 is in omega (arith, e), open-in_order u rs h.1)
      | inr over ↦ subst RequestsInOrder (sym (open-no u r rs over)) (open-in_order u rs h.1)
    ]

pub stands-pending_turn : (p : Pending) (rs : List TimedNeed) (n : Need) → StandsFor p rs
    → issue_turn p.last p.records n ≡ issue_turn (last_issue rs) rs n
stands-pending_turn p rs n s =
    let last = last_issue rs in
    let kept = open_at last rs in
    let here = issue_turn-issues last kept n (each-open (λ r. r.issue ≤ last) last rs (timed-issued rs s.timed)) (open-in_order last rs (timed-in_order rs s.timed)) in
    let there = issues-open last last rs n (issue_turn last rs n) (omega arith) (timed-take_time rs s.timed s.costs) (timed-issues rs n s.timed) in
    ap (λ (q : Pending). issue_turn q.last q.records n) s.pending
    ∙ issues-once last kept n (issue_turn last kept n) (issue_turn last rs n) here there
