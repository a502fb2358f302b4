-- What a fence asks for.
use Rattle.std.proofs.Common.{ℕ, ◌≤◌, max, List, [], ◌∷◌, arith}
use Rattle.std.specs.List.{AllByRecursion}
use Rattle.i9_model.specs.declared.need.Need.{Need}
use Rattle.i9_model.specs.declared.need.TimedNeed.{TimedNeed}
use Rattle.i9_model.specs.Turns.{IsTimed, AreAllDone, last_issue, issue_turn, done_from, end_turn, waiting_until}
use Rattle.i9_model.specs.Fences.{Item, Placed, Fence, fenced}
use Rattle.i9_turns.proofs.TurnWhole.{IsTimed-with_need, timed-issues}

pub done_from-above : (t v : ℕ) (rs : List TimedNeed) → done_from t rs ≤ v → (t ≤ v) × AllByRecursion (λ r. r.done ≤ v) rs
done_from-above t v [] h = (h, tt)
done_from-above t v (r ∷ rs) h = grind (arith, done_from-above (max t r.done) v rs h)

-- a list with fences has the turns of a list of needs
pub fenced-timed : (items : List Item) → IsTimed (fenced items).records
fenced-timed [] = tt
fenced-timed (Placed n ∷ items) = IsTimed-with_need (fenced items).records (waiting_until (fenced items).fence n) (fenced-timed items)
fenced-timed (Fence ∷ items) = fenced-timed items

pub all-end : (rs : List TimedNeed) → AreAllDone rs (end_turn rs)
all-end rs =
    let h = done_from-above (last_issue rs) (end_turn rs) rs (omega arith) in
    record { in_order = h.0; done = h.1 }

pub done_from-least : (t v : ℕ) (rs : List TimedNeed) → t ≤ v → AllByRecursion (λ r. r.done ≤ v) rs → done_from t rs ≤ v
done_from-least t v [] le h = le
done_from-least t v (r ∷ rs) le h = let one : r.done ≤ v = h.0 in done_from-least (max t r.done) v rs (omega arith) h.1

pub end-least : (rs : List TimedNeed) (t : ℕ) → AreAllDone rs t → end_turn rs ≤ t
end-least rs t h = done_from-least (last_issue rs) t rs h.in_order h.done

-- the fence's turn is one at which all before it is done
pub fence-done : (items : List Item) → AreAllDone (fenced (Fence ∷ items)).records (fenced (Fence ∷ items)).fence
fence-done items = all-end (fenced items).records

-- the first record after a fence, and so each later one, issues no earlier
pub after-fence : (items : List Item) (n : Need) → (fenced (Fence ∷ items)).fence ≤ last_issue (fenced (Placed n ∷ Fence ∷ items)).records
after-fence items n =
    let m = fenced (Fence ∷ items) in
    let at = waiting_until m.fence n in
    let h = timed-issues m.records at (fenced-timed items) in
    let w : max m.fence n.not_before ≤ issue_turn (last_issue m.records) m.records at = h.can.waited in
    omega (arith, w)
