-- All barriers issue alike: at the least turn at which all before them are done.
use Rattle.std.proofs.Common.{◌≡◌, ℕ, ◌<◌, ◌≤◌, List, [], ◌∷◌, refl, sym, inl, arith}
use Rattle.std.specs.Prelude.{IsTrue}
use Rattle.std.specs.List.{AllByRecursion}
use Rattle.std.proofs.lemmas.Bool.Decides.{nat_tests}
use Rattle.i9_model.specs.declared.need.Need.{Need}
use Rattle.i9_model.specs.declared.need.TimedNeed.{TimedNeed}
use Rattle.i9_model.specs.Turns.{Permits, CanIssue, IsTimed, TakesTurns, last_issue, open_requests, issue_turn}
use Rattle.i9_turns.proofs.TurnDropped.{permits-done}
use Rattle.i9_turns.proofs.TurnOpen.{timed-take_time}
use Rattle.i9_turns.proofs.TurnComputed.{open_requests-cons}
use Rattle.i9_turns.proofs.TurnWhole.{timed-issues}

pub none_open : (t : ℕ) (rs : List TimedNeed) → AllByRecursion (λ r. r.done ≤ t) rs → open_requests t rs ≡ 0
none_open t [] h = refl
none_open t (r ∷ rs) h = grind (arith, nat_tests, open_requests-cons t r rs, h.0, none_open t rs h.1)

all_done : (n : Need) (t : ℕ) (rs : List TimedNeed) → IsTrue n.barrier → AllByRecursion (Permits n t) rs → AllByRecursion (λ r. r.done ≤ t) rs
all_done n t [] b h = tt
all_done n t (r ∷ rs) b h = (h.0.alone (inl b), all_done n t rs b h.1)

pub all_permit : (m : Need) (t : ℕ) (rs : List TimedNeed) → AllByRecursion (λ r. r.issue < r.done) rs → AllByRecursion (λ r. r.done ≤ t) rs → AllByRecursion (Permits m t) rs
all_permit m t [] k h = tt
all_permit m t (r ∷ rs) k h = (permits-done m t r k.0 h.0, all_permit m t rs k.1 h.1)

barrier_can : (n m : Need) (last t : ℕ) (rs : List TimedNeed) → IsTrue n.barrier → n.not_before ≡ m.not_before → AllByRecursion (λ r. r.issue < r.done) rs → CanIssue last rs n t → CanIssue last rs m t
barrier_can n m last t rs b e time can = grind (arith, all_done, none_open, all_permit)

pub barriers_alike : (n m : Need) (rs : List TimedNeed) → IsTimed rs → TakesTurns rs → IsTrue n.barrier → IsTrue m.barrier → n.not_before ≡ m.not_before → issue_turn (last_issue rs) rs n ≡ issue_turn (last_issue rs) rs m
barriers_alike n m rs h c bn bm e =
    let time = timed-take_time rs h c in
    let i = timed-issues rs n h in
    let j = timed-issues rs m h in
    let le : issue_turn (last_issue rs) rs n ≤ issue_turn (last_issue rs) rs m = i.least _ (barrier_can m n (last_issue rs) _ rs bm (sym e) time j.can) in
    let ge : issue_turn (last_issue rs) rs m ≤ issue_turn (last_issue rs) rs n = j.least _ (barrier_can n m (last_issue rs) _ rs bn e time i.can) in
    omega (arith, le, ge)
