-- A list of needs has one list of turns.
use Rattle.std.proofs.Common.{◌≡◌, List, [], ◌∷◌, refl, ap, ◌∙◌, arith}
use Rattle.std.specs.Prelude.{map}
use Rattle.i9_model.specs.declared.need.Need.{Need}
use Rattle.i9_model.specs.declared.need.TimedNeed.{TimedNeed}
use Rattle.i9_model.specs.Turns.{Follows, IssuesAt, IsTimed, last_issue, issue_turn, with_need, timed}
use Rattle.i9_turns.proofs.TurnDropped.{issues-once}
use Rattle.i9_turns.proofs.TurnOpen.{timed-in_order}
use Rattle.i9_turns.proofs.TurnComputed.{IssuedBy, issued-later, issue_turn-issues}

pub timed-issued : (rs : List TimedNeed) → IsTimed rs → IssuedBy (last_issue rs) rs
timed-issued [] h = tt
timed-issued (r ∷ rs) h = (omega arith, issued-later (last_issue rs) r.issue h.0.issue.can.in_order rs (timed-issued rs h.1))

pub timed-issues : (rs : List TimedNeed) (n : Need) → IsTimed rs → IssuesAt (last_issue rs) rs n (issue_turn (last_issue rs) rs n)
timed-issues rs n h = issue_turn-issues (last_issue rs) rs n (timed-issued rs h) (timed-in_order rs h)

pub IsTimed-with_need : (rs : List TimedNeed) (n : Need) → IsTimed rs → IsTimed (with_need rs n)
IsTimed-with_need rs n h = (record { issue = timed-issues rs n h; done = refl }, h)

pub IsTimed-timed : (ns : List Need) → IsTimed (timed ns)
IsTimed-timed [] = tt
IsTimed-timed (n ∷ ns) = IsTimed-with_need (timed ns) n (IsTimed-timed ns)

pub needs-timed : (ns : List Need) → map (λ r. r.need) (timed ns) ≡ ns
needs-timed [] = refl
needs-timed (n ∷ ns) = ap (λ ms. n ∷ ms) (needs-timed ns)

-- the record that follows is the one that is computed
pub follows-with_need : (rs : List TimedNeed) (r : TimedNeed) → IsTimed rs → Follows rs r → r ∷ rs ≡ with_need rs r.need
follows-with_need rs r h f = grind (arith, issues-once, timed-issues)

pub timed-unique : (rs : List TimedNeed) → IsTimed rs → rs ≡ timed (map (λ r. r.need) rs)
timed-unique [] h = refl
timed-unique (r ∷ rs) h = follows-with_need rs r h.1 h.0 ∙ ap (λ xs. with_need xs r.need) (timed-unique rs h.1)
