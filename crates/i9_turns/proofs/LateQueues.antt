-- The waiting requests as a queue.
use Rattle.std.proofs.Common.{◌≡◌, ℕ, cond, ◌&&◌, List, [], ◌∷◌, length, refl, arith, length-append}
use Rattle.std.specs.Prelude.{nat_lt}
use Rattle.std.proofs.lemmas.List.Sums.{sum_by-cons}
use Rattle.std.proofs.lemmas.Bool.{cases_Bool, and_parts}
use Rattle.std.proofs.lemmas.Bool.Decides.{nat_tests}
use Rattle.i9_model.specs.Turns.{open_requests}
use Rattle.i9_model.specs.Late.{Late, wait_of, turns, waiting, AreDueInOrder, RequestsDone, IsOrderly}
use Rattle.i9_turns.proofs.LateMemories.{waiting-yes, waiting-no}
use Rattle.i9_model.proofs.Queues.{AllBefore, all-append, order-append}

pub waits-before : (t d : ℕ) (xs : List Late) → RequestsDone d xs → AllBefore d (waiting t xs)
waits-before t d [] h = tt
waits-before t d (x ∷ xs) h =
    grind (arith, cases_Bool, waiting-yes, all-append, and_parts, waiting-no, waits-before t d xs h.1)

-- The requests wait in the order of their turns.
pub waiting-in-order : (t : ℕ) (xs : List Late) → IsOrderly xs → AreDueInOrder (waiting t xs)
waiting-in-order t [] o = tt
waiting-in-order t (x ∷ xs) o =
    grind (arith, cases_Bool, waiting-yes, order-append, waits-before, and_parts, waiting-no, waiting-in-order t xs o.1)

-- There are as many as there are open requests.
pub waiting-count : (t : ℕ) (xs : List Late) → length (waiting t xs) ≡ open_requests t (turns xs)
waiting-count t [] = refl
waiting-count t (x ∷ xs) =
    let cons = sum_by-cons (λ r. cond (r.need.request && nat_lt t r.done) 1 0) x.timed (turns xs) in
    grind (arith, nat_tests, waiting-count t xs, length-append (waiting t xs) (wait_of x ∷ []))
