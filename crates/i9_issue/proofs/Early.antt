-- Where all open records are done at the first turn that the side leaves, a need issues there.
use Rattle.std.proofs.Common.{◌≡◌, ℕ, ◌+◌, ◌-◌, ◌<◌, ◌≤◌, max, cond, List, [], ◌∷◌, length, get_or, take, reverse, sym, ap, ◌∙◌, subst, refl, arith}
use Rattle.std.specs.Prelude.{nat_le, ◌&&◌, ◌||◌}
use Rattle.std.specs.List.{AllByRecursion}
use Rattle.std.proofs.lemmas.List.{length-reverse}
use Rattle.i9_model.specs.declared.need.Need.{Need}
use Rattle.i9_model.specs.declared.need.TimedNeed.{TimedNeed}
use Rattle.i9_model.specs.Turns.{keeps_side, waits_for, least_turn, turn_from, open_at}
use Rattle.i9_turns.proofs.TurnComputed.{cond-le}
use Rattle.i9_turns.proofs.TurnFences.{done_from-above}
use Rattle.i9_issue.specs.Room.{Holds, side_from}
use Rattle.i9_issue.proofs.Loops.{newest-place, open-reverse, take-time}
use Rattle.i9_issue.proofs.Seven.{each-weaker, open-none}

-- a record permits the turn at which it is done
least-done : (n : Need) (k u : ℕ) (r : TimedNeed) → r.issue < r.done → r.done ≤ u → least_turn n k r ≤ u
least-done n k u r time done = grind (arith, cond-le)

from-done : (n : Need) (t k u : ℕ) (rs : List TimedNeed) → t ≤ u → AllByRecursion (λ r. r.issue < r.done) rs → AllByRecursion (λ r. r.done ≤ u) rs → turn_from n t k rs ≤ u
from-done n t k u [] le time done = le
from-done n t k u (r ∷ rs) le time done =
    let least = least-done n k u r time.0 done.0 in
    from-done n (max t (least_turn n k r)) (k + cond r.need.request 1 0) u rs (omega (arith, le, least)) time.1 done.1

from-above : (n : Need) (t k : ℕ) (rs : List TimedNeed) → t ≤ turn_from n t k rs
from-above n t k [] = omega arith
from-above n t k (r ∷ rs) =
    let le : max t (least_turn n k r) ≤ turn_from n (max t (least_turn n k r)) (k + cond r.need.request 1 0) rs = from-above n (max t (least_turn n k r)) (k + cond r.need.request 1 0) rs in
    omega (arith, le)

pub each-done : (until free : ℕ) (rs : List TimedNeed) → until ≤ free → AllByRecursion (λ r. r.done ≤ until) rs → AllByRecursion (λ r. r.done ≤ free) rs
each-done until free rs le done = each-weaker (λ r. r.done ≤ until) (λ r. r.done ≤ free) (λ r d. omega (arith, le, d)) rs done

-- the turn that the side leaves is the least where all are done there
pub free-turn : (n : Need) (from until : ℕ) (rs : List TimedNeed) → AllByRecursion (λ r. r.issue < r.done) rs → AllByRecursion (λ r. r.done ≤ until) rs → until ≤ max from (side_from n rs) → max from (side_from n rs) ≡ turn_from n from 0 rs
free-turn n from until [] time done le = omega arith
free-turn n from until (r ∷ rs) time done le =
    let side : ℕ = cond (keeps_side r.need.side n) (r.issue + 1) 0 in
    let waits : ℕ = cond (waits_for n r.need || n.request && r.need.request && nat_le 2 0) r.done 0 in
    let free : ℕ = max from side in
    let at : until ≤ free = le in
    let by_free : AllByRecursion (λ r. r.done ≤ free) (r ∷ rs) = each-done until free (r ∷ rs) at done in
    let less : turn_from n from 0 (r ∷ rs) ≤ free = from-done n from 0 free (r ∷ rs) (omega arith) time by_free in
    let more : max from (max side waits) ≤ turn_from n from 0 (r ∷ rs) = from-above n (max from (max side waits)) (0 + cond r.need.request 1 0) rs in
    omega (arith, less, more)

-- the newest of the places
newest-list : (count : ℕ) (rs : List TimedNeed) (d : TimedNeed) → 0 < count → count ≤ length rs → reverse (take count rs) ≡ get_or rs (count - 1) d ∷ reverse (take (count - 1) rs)
newest-list count rs d some few =
    let e : count - 0 ≡ count = omega arith in
    let at : count - 1 - 0 ≡ count - 1 = omega arith in
    ap (λ j. reverse (take j rs)) (sym e) ∙ newest-place count 0 rs d some few ∙ ap (λ j. get_or rs j d ∷ reverse (take (count - 1) rs)) at

pub newest-side : (n : Need) (count : ℕ) (rs : List TimedNeed) (d : TimedNeed) → 0 < count → count ≤ length rs
    → side_from n (reverse (take count rs)) ≡ cond (keeps_side (get_or rs (count - 1) d).need.side n) ((get_or rs (count - 1) d).issue + 1) 0
newest-side n count rs d some few = ap (side_from n) (newest-list count rs d some few)

pub newest-early : (m count : ℕ) (rs : List TimedNeed) (d : TimedNeed) → 0 < count → count ≤ length rs → AllByRecursion (λ r. r.issue < m) (reverse (take count rs)) → (get_or rs (count - 1) d).issue < m
newest-early m count rs d some few early = (subst (AllByRecursion (λ r. r.issue < m)) (newest-list count rs d some few) early).0

-- where all are done none is open
no-places : (rs : List TimedNeed) → length rs ≡ 0 → rs ≡ []
no-places [] e = refl
no-places (r ∷ rs) e = absurd (omega (arith, e))

pub open-none-back : (u : ℕ) (rs : List TimedNeed) → AllByRecursion (λ r. r.done ≤ u) (reverse rs) → open_at u rs ≡ []
open-none-back u rs done =
    no-places (open_at u rs) (sym (length-reverse (open_at u rs)) ∙ ap length (sym (open-reverse u rs)) ∙ ap length (open-none u (reverse rs) done))

-- what the scoreboard keeps is done at the turn that it keeps
pub held-done : (last until asked count : ℕ) (places : List TimedNeed) → Holds last until asked count places → AllByRecursion (λ r. r.done ≤ until) (reverse (take count places))
held-done last until asked count places held = (done_from-above last until (reverse (take count places)) (omega (arith, held.end))).1

pub held-time : (last until asked count : ℕ) (places : List TimedNeed) → Holds last until asked count places → AllByRecursion (λ r. r.issue < r.done) (reverse (take count places))
held-time last until asked count places held = take-time last (reverse (take count places)) held.fits.issued held.fits.are_open
