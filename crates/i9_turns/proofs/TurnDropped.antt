-- Records that are done change nothing later.
use Rattle.std.proofs.Common.{◌≡◌, ℕ, ◌+◌, ◌<◌, ◌≤◌, max, Bool, false, cond, ◌&&◌, ltb, List, [], ◌∷◌, sym, refl, ap, subst, inl, inr, arith}
use Rattle.std.specs.Prelude.{IsTrue, nat_lt}
use Rattle.std.specs.List.{AllByRecursion, count_by}
use Rattle.std.proofs.lemmas.Bool.{cond-true, cond-false, cases_lt, lt-ltb, le-ltb}
use Rattle.std.proofs.lemmas.List.Sums.{sum_by-cons}
use Rattle.std.proofs.lemmas.Bool.Decides.{nat_tests}
use Rattle.i9_model.specs.declared.need.Need.{Need}
use Rattle.i9_model.specs.declared.need.TimedNeed.{TimedNeed}
use Rattle.i9_model.specs.Turns.{RequestsInOrder, Permits, CanIssue, IssuesAt, open_at, done_turn, last_request}

-- each record is done after its issue
abbrev pub TakeTime : List TimedNeed → Type 0
TakeTime rs = AllByRecursion (λ r. r.issue < r.done) rs

pub open-yes : (u : ℕ) (r : TimedNeed) (rs : List TimedNeed) → u < r.done → open_at u (r ∷ rs) ≡ r ∷ open_at u rs
open-yes u r rs h = cond-true (ltb u r.done) (r ∷ open_at u rs) (open_at u rs) (lt-ltb u r.done h)

pub open-no : (u : ℕ) (r : TimedNeed) (rs : List TimedNeed) → r.done ≤ u → open_at u (r ∷ rs) ≡ open_at u rs
open-no u r rs h = cond-false (ltb u r.done) (r ∷ open_at u rs) (open_at u rs) (le-ltb u r.done h)

pub each-open : (P : TimedNeed → Type 0) (u : ℕ) (rs : List TimedNeed) → AllByRecursion P rs → AllByRecursion P (open_at u rs)
each-open P u [] h = tt
each-open P u (r ∷ rs) h = grind (arith, cases_lt, open-yes, open-no, each-open P u rs h.1)

-- what is done permits
pub permits-done : (n : Need) (t : ℕ) (r : TimedNeed) → r.issue < r.done → r.done ≤ t → Permits n t r
permits-done n t r before done = grind arith

pub open-each : (n : Need) (u t : ℕ) → u ≤ t → (rs : List TimedNeed) → TakeTime rs → AllByRecursion (Permits n t) (open_at u rs) → AllByRecursion (Permits n t) rs
open-each n u t le [] w h = tt
open-each n u t le (r ∷ rs) w h =
    elim (cases_lt u r.done) [
      | inl later ↦
          let k = subst (AllByRecursion (Permits n t)) (open-yes u r rs later) h in
          (k.0, open-each n u t le rs w.1 k.1)
      | inr over ↦
          let k = subst (AllByRecursion (Permits n t)) (open-no u r rs over) h in
          (permits-done n t r w.0 (omega arith), open-each n u t le rs w.1 k)
    ]

-- the count of what is open at t is that of what is open at u, for u at most t
pub count-open : (p : TimedNeed → Bool) (u t : ℕ) → u ≤ t → (rs : List TimedNeed) → count_by (λ r. p r && nat_lt t r.done) (open_at u rs) ≡ count_by (λ r. p r && nat_lt t r.done) rs
count-open p u t le [] = refl
count-open p u t le (r ∷ rs) =
    let cons = λ (xs : List TimedNeed). sum_by-cons (λ (y : TimedNeed). cond (p y && nat_lt t y.done) 1 0) r xs in
    grind (arith, nat_tests, count-open p u t le rs, cons rs, cons (open_at u rs))

-- from u on, what is done at u changes nothing
pub can-open : (u last : ℕ) (rs : List TimedNeed) (n : Need) (t : ℕ) → u ≤ t → CanIssue last rs n t → CanIssue last (open_at u rs) n t
can-open u last rs n t le h =
    record {
      in_order = h.in_order;
      waited = h.waited;
      each = each-open (Permits n t) u rs h.each;
      room = λ q. subst (λ m. m ≤ 2) (sym (count-open (λ r. r.need.request) u t le rs)) (h.room q);
    }

pub open-can : (u last : ℕ) (rs : List TimedNeed) (n : Need) (t : ℕ) → u ≤ t → TakeTime rs → CanIssue last (open_at u rs) n t → CanIssue last rs n t
open-can u last rs n t le w h =
    record {
      in_order = h.in_order;
      waited = h.waited;
      each = open-each n u t le rs w h.each;
      room = λ q. subst (λ m. m ≤ 2) (count-open (λ r. r.need.request) u t le rs) (h.room q);
    }

-- the same for the issue turn: what is done at the last issue turn may be left out
pub issues-open : (u last : ℕ) (rs : List TimedNeed) (n : Need) (t : ℕ) → u ≤ last → TakeTime rs → IssuesAt last rs n t → IssuesAt last (open_at u rs) n t
issues-open u last rs n t le w h =
    record {
      can = let in_order : last ≤ t = h.can.in_order in can-open u last rs n t (omega arith) h.can;
      least = λ v can. let in_order : last ≤ v = can.in_order in h.least v (open-can u last rs n v (omega arith) w can);
    }

pub open-issues : (u last : ℕ) (rs : List TimedNeed) (n : Need) (t : ℕ) → u ≤ last → TakeTime rs → IssuesAt last (open_at u rs) n t → IssuesAt last rs n t
open-issues u last rs n t le w h =
    record {
      can = let in_order : last ≤ t = h.can.in_order in open-can u last rs n t (omega arith) w h.can;
      least = λ v can. let in_order : last ≤ v = can.in_order in h.least v (can-open u last rs n v (omega arith) can);
    }

-- there is one issue turn
pub issues-once : (last : ℕ) (rs : List TimedNeed) (n : Need) (t u : ℕ) → IssuesAt last rs n t → IssuesAt last rs n u → t ≡ u
issues-once last rs n t u a b = grind arith

pub last_request-yes : (r : TimedNeed) (rs : List TimedNeed) → IsTrue r.need.request → last_request (r ∷ rs) ≡ r.done
last_request-yes r rs h = cond-true r.need.request r.done (last_request rs) h

pub last_request-no : (r : TimedNeed) (rs : List TimedNeed) → r.need.request ≡ false → last_request (r ∷ rs) ≡ last_request rs
last_request-no r rs h = cond-false r.need.request r.done (last_request rs) h

pub max-last_request-open : (u t : ℕ) → u ≤ t → (rs : List TimedNeed) → RequestsInOrder rs → max t (last_request (open_at u rs)) ≡ max t (last_request rs)
max-last_request-open u t le [] h = refl
max-last_request-open u t le (r ∷ rs) h = grind (arith, nat_tests, max-last_request-open u t le rs h.1)

pub done_turn-open : (u t : ℕ) → u ≤ t → (rs : List TimedNeed) (n : Need) → RequestsInOrder rs → done_turn (open_at u rs) n t ≡ done_turn rs n t
done_turn-open u t le rs n h = ap (λ m. cond n.request m t + n.cost) (max-last_request-open u t le rs h)
