-- Few records are open of any list that has its turns.
use Rattle.std.proofs.Common.{◌≤◌, List, [], ◌∷◌, length, sym, subst, arith}
use Rattle.std.specs.List.{AllByRecursion}
use Rattle.i9_model.specs.declared.need.TimedNeed.{TimedNeed}
use Rattle.i9_model.specs.Turns.{IsTimed, TakesTurns, HasCost, Pending, pending_of, open_at, last_issue}
use Rattle.i9_turns.proofs.TurnOpen.{follows-open, pending-next, timed-take_time}
use Rattle.i9_issue.specs.Room.{Fits}
use Rattle.i9_issue.proofs.Seven.{Fits-next, at_most_seven}

-- each need has its cost
abbrev pub HaveCosts : List TimedNeed → Type 0
HaveCosts rs = AllByRecursion (λ r. HasCost r.need) rs

take_turns : (rs : List TimedNeed) → HaveCosts rs → TakesTurns rs
take_turns [] h = tt
take_turns (r ∷ rs) h = (h.0.some, take_turns rs h.1)

all_fit : (rs : List TimedNeed) → IsTimed rs → HaveCosts rs → Fits (last_issue rs) (open_at (last_issue rs) rs)
all_fit [] h c = record {
  issued = tt;
  are_open = tt;
  plain = tt;
  in_order = tt;
  requests = omega arith;
  slow = omega arith;
  sides = λ side. omega arith;
  barrier = λ some. omega arith;
}
all_fit (r ∷ rs) h c =
    let turns = take_turns (r ∷ rs) c in
    let p = pending_of rs in
    let follows = follows-open rs r h.1 turns.1 h.0 in
    let next = pending-next rs r (timed-take_time (r ∷ rs) h turns).0 h.0.issue.can.in_order in
    subst (λ (q : Pending). Fits q.last q.records) (sym next) (Fits-next p.last p.records r.need r.issue r.done (all_fit rs h.1 c.1) c.0 follows.issue.can follows.done)

pub all_open : (rs : List TimedNeed) → IsTimed rs → HaveCosts rs → length (open_at (last_issue rs) rs) ≤ 7
all_open rs h c = at_most_seven (last_issue rs) (open_at (last_issue rs) rs) (all_fit rs h c)
