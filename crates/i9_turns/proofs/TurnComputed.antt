-- The computed turn is the least at which the need may issue.
use Rattle.std.proofs.Common.{◌≡◌, ◌≢◌, ℕ, ◌+◌, ◌-◌, ◌<◌, ◌≤◌, max, Bool, true, false, cond, ◌&&◌, ◌||◌, List, [], ◌∷◌, subst, inl, inr, arith}
use Rattle.std.specs.Prelude.{IsTrue, nat_lt, nat_le, ◌⊎◌}
use Rattle.std.specs.List.{AllByRecursion}
use Rattle.std.proofs.lemmas.Bool.{cases_Bool, cases_lt, cond-true, or_cases, or_left, both_ways}
use Rattle.std.proofs.lemmas.Bool.Decides.{nat_tests}
use Rattle.std.proofs.lemmas.List.Sums.{sum_by-cons}
use Rattle.i9_model.specs.declared.need.Need.{Need}
use Rattle.i9_model.specs.declared.need.TimedNeed.{TimedNeed}
use Rattle.i9_model.specs.Turns.{RequestsInOrder, Permits, CanIssue, IssuesAt, open_requests, last_request, keeps_side, changes_value, changes_words, waits_for, least_turn, turn_from, issue_turn}
use Rattle.i9_turns.proofs.TurnTests.{changes_value-from, changes_value-none, changes_words-from, changes_words-true}

pub cond-le : (b : Bool) (m v : ℕ) → (b ≡ true → m ≤ v) → cond b m 0 ≤ v
cond-le b m v h = grind arith

pub le-cond : (b : Bool) (m v : ℕ) → cond b m 0 ≤ v → b ≡ true → m ≤ v
le-cond b m v h e = subst (λ k. k ≤ v) (cond-true b m 0 e) h

-- what makes a need wait for a record
pub record Waits (n : Need) (v : ℕ) (r : TimedNeed) : Type 0 where
  pub values : changes_value r.need n ≡ true → r.done ≤ v
  pub slow : n.slow ≡ true → r.need.slow ≡ true → r.done ≤ v
  pub words : changes_words r.need.store n.code ≡ true → r.done ≤ v
  pub barrier : r.need.barrier ≡ true → r.done ≤ v
  pub alone : (n.barrier ≡ true) ⊎ (n.alone ≡ true) → r.done ≤ v

pub waits-done : (n : Need) (v : ℕ) (r : TimedNeed) → Waits n v r → waits_for n r.need ≡ true → r.done ≤ v
waits-done n v r w h = grind (arith, nat_tests, h, w.values, w.slow, w.words, w.barrier, w.alone)

pub done-waits : (n : Need) (v : ℕ) (r : TimedNeed) → (waits_for n r.need ≡ true → r.done ≤ v) → Waits n v r
done-waits n v r h = grind arith

-- a fact that may be refuted by a smaller turn
pub done-unless : (v d : ℕ) → ((v < d → ⊥) → d ≤ v)
done-unless v d h = elim (cases_lt v d) [ inl lt ↦ absurd (h lt) | inr le ↦ le ]

pub permits-waits : (n : Need) (v : ℕ) (r : TimedNeed) → Permits n v r → Waits n v r
permits-waits n v r p = grind (arith, done-unless, both_ways, changes_value-none, changes_words-true)

pub waits-permits : (n : Need) (v : ℕ) (r : TimedNeed) → (IsTrue (keeps_side r.need.side n) → r.issue ≢ v) → Waits n v r → Permits n v r
waits-permits n v r side w = grind (arith, changes_value-from, changes_words-from)

-- the request is one of the two newest, or done
abbrev pub IsOldDone : Need → ℕ → ℕ → TimedNeed → Type 0
IsOldDone n requests v r = IsTrue n.request → IsTrue r.need.request → 2 ≤ requests → r.done ≤ v

abbrev pub is_old : Need → ℕ → TimedNeed → Bool
is_old n requests r = n.request && r.need.request && nat_le 2 requests

pub least-le : (n : Need) (k v : ℕ) (r : TimedNeed) → r.issue ≤ v → Permits n v r → IsOldDone n k v r → least_turn n k r ≤ v
least-le n k v r before p old =
    let side : cond (keeps_side r.need.side n) (r.issue + 1) 0 ≤ v =
    cond-le (keeps_side r.need.side n) (r.issue + 1) v (λ e. let ne : r.issue ≢ v = p.side e in omega arith) in
    let waits : cond (waits_for n r.need || is_old n k r) r.done 0 ≤ v =
    cond-le (waits_for n r.need || is_old n k r) r.done v
    (λ e. elim (or_cases (waits_for n r.need) (is_old n k r) e) [
      | inl w ↦ waits-done n v r (permits-waits n v r p) w
      | inr w ↦ old (grind arith) (grind arith) (grind (arith, nat_tests, w))
    ]) in
    omega (arith, side, waits)

pub le-least : (n : Need) (k v : ℕ) (r : TimedNeed) → least_turn n k r ≤ v → Permits n v r × IsOldDone n k v r
le-least n k v r h =
    let side : cond (keeps_side r.need.side n) (r.issue + 1) 0 ≤ v = omega (arith, h) in
    let waits : cond (waits_for n r.need || is_old n k r) r.done 0 ≤ v = omega (arith, h) in
    let done = le-cond (waits_for n r.need || is_old n k r) r.done v waits in (
      waits-permits n v r
          (λ e same. let le : r.issue + 1 ≤ v = le-cond (keeps_side r.need.side n) (r.issue + 1) v side e in omega arith)
          (done-waits n v r (λ e. done (or_left (waits_for n r.need) (is_old n k r) e))),
      λ a b c. done (grind (arith, nat_tests, a, b, c)),
    )

-- how many requests there are with this record
abbrev pub one_if : Bool → ℕ
one_if b = cond b 1 0

abbrev pub more : ℕ → TimedNeed → ℕ
more k r = k + one_if r.need.request

-- no record asks for a turn above v
abbrev pub AllBelow : Need → ℕ → ℕ → List TimedNeed → Type 0
AllBelow n k v [] = Unit {0}
AllBelow n k v (r ∷ rs) = (least_turn n k r ≤ v) × AllBelow n (more k r) v rs

-- the requests but the two newest are done at v
abbrev pub OldDone : Need → ℕ → ℕ → List TimedNeed → Type 0
OldDone n k v [] = Unit {0}
OldDone n k v (r ∷ rs) = IsOldDone n k v r × OldDone n (more k r) v rs

pub turn_from-least : (n : Need) (t k v : ℕ) (rs : List TimedNeed) → t ≤ v → AllBelow n k v rs → turn_from n t k rs ≤ v
turn_from-least n t k v [] le h = le
turn_from-least n t k v (r ∷ rs) le h =
    let one : least_turn n k r ≤ v = h.0 in
    let le' : max t (least_turn n k r) ≤ v = omega (arith, one) in
    turn_from-least n (max t (least_turn n k r)) (more k r) v rs le' h.1

pub turn_from-above : (n : Need) (t k v : ℕ) (rs : List TimedNeed) → turn_from n t k rs ≤ v → (t ≤ v) × AllBelow n k v rs
turn_from-above n t k v [] h = (h, tt)
turn_from-above n t k v (r ∷ rs) h = grind (arith, turn_from-above n (max t (least_turn n k r)) (more k r) v rs h)

-- each record issued at v or before
abbrev pub IssuedBy : ℕ → List TimedNeed → Type 0
IssuedBy v rs = AllByRecursion (λ r. r.issue ≤ v) rs

pub each-below : (n : Need) (k v : ℕ) (rs : List TimedNeed) → IssuedBy v rs → AllByRecursion (Permits n v) rs → OldDone n k v rs → AllBelow n k v rs
each-below n k v [] b p o = tt
each-below n k v (r ∷ rs) b p o = (least-le n k v r b.0 p.0 o.0, each-below n (more k r) v rs b.1 p.1 o.1)

pub below-each : (n : Need) (k v : ℕ) (rs : List TimedNeed) → AllBelow n k v rs → AllByRecursion (Permits n v) rs × OldDone n k v rs
below-each n k v [] h = (tt, tt)
below-each n k v (r ∷ rs) h = grind (arith, le-least, below-each n (more k r) v rs h.1)

-- ---- the number of open requests

pub open_requests-cons : (v : ℕ) (r : TimedNeed) (rs : List TimedNeed) → open_requests v (r ∷ rs) ≡ one_if (r.need.request && nat_lt v r.done) + open_requests v rs
open_requests-cons v r rs = sum_by-cons (λ r. cond (r.need.request && nat_lt v r.done) 1 0) r rs

-- where the older requests are done, few are open
pub old-few : (n : Need) (k v : ℕ) → IsTrue n.request → (rs : List TimedNeed) → OldDone n k v rs → open_requests v rs ≤ 2 - k
old-few n k v q [] h = omega arith
old-few n k v q (r ∷ rs) h = grind (arith, nat_tests, open_requests-cons v r rs, old-few n (more k r) v q rs h.1, h.0 q)

-- where the last request is done, so are those before it
pub last-old : (n : Need) (k v : ℕ) (rs : List TimedNeed) → RequestsInOrder rs → last_request rs ≤ v → OldDone n k v rs
last-old n k v [] o h = tt
last-old n k v (r ∷ rs) o h = ((λ _ is _. grind (arith, nat_tests, is)), last-old n (more k r) v rs o.1 (grind (arith, nat_tests, o.0)))

-- where few are open, the older requests are done
pub few-old : (n : Need) (k v : ℕ) (rs : List TimedNeed) → RequestsInOrder rs → open_requests v rs ≤ 2 - k → OldDone n k v rs
few-old n k v [] o h = tt
few-old n k v (r ∷ rs) o h =
    let e = open_requests-cons v r rs in (
      (λ _ is two. grind (arith, nat_tests, is)),
      elim (cases_Bool (r.need.request && nat_le r.done v)) [
        | inl over ↦ last-old n (more k r) v rs o.1 (grind (arith, nat_tests, o.0))
        | inr later ↦ few-old n (more k r) v rs o.1 (grind (arith, nat_tests))
      ],
    )

-- ---- the issue turn

pub no-old : (n : Need) (k v : ℕ) → n.request ≡ false → (rs : List TimedNeed) → OldDone n k v rs
no-old n k v h [] = tt
no-old n k v h (r ∷ rs) = (λ is _ _. absurd (both_ways n.request h is), no-old n (more k r) v h rs)

pub issued-later : (t v : ℕ) → t ≤ v → (rs : List TimedNeed) → IssuedBy t rs → IssuedBy v rs
issued-later t v le [] h = tt
issued-later t v le (r ∷ rs) h = (let k : r.issue ≤ t = h.0 in omega arith, issued-later t v le rs h.1)

pub can-below : (last : ℕ) (rs : List TimedNeed) (n : Need) (v : ℕ) → IssuedBy last rs → RequestsInOrder rs → CanIssue last rs n v → issue_turn last rs n ≤ v
can-below last rs n v b o h =
    let le : last ≤ v = h.in_order in
    let wait : n.not_before ≤ v = h.waited in
    let old : OldDone n 0 v rs =
    elim (cases_Bool n.request) [
      | inl is ↦ few-old n 0 v rs o (let few : open_requests v rs ≤ 2 = h.room is in omega (arith, few))
      | inr not ↦ no-old n 0 v not rs
    ] in
    turn_from-least n (max last n.not_before) 0 v rs (omega arith) (each-below n 0 v rs (issued-later last v le rs b) h.each old)

pub below-can : (last : ℕ) (rs : List TimedNeed) (n : Need) (v : ℕ) → issue_turn last rs n ≤ v → CanIssue last rs n v
below-can last rs n v h =
    let a = turn_from-above n (max last n.not_before) 0 v rs h in
    let le : max last n.not_before ≤ v = a.0 in
    let each = below-each n 0 v rs a.1 in
    record {
      in_order = omega (arith, le);
      waited = omega (arith, le);
      each = each.0;
      room = λ q. let few : open_requests v rs ≤ 2 - 0 = old-few n 0 v q rs each.1 in omega (arith, few);
    }

-- the computed turn is the issue turn
pub issue_turn-issues : (last : ℕ) (rs : List TimedNeed) (n : Need) → IssuedBy last rs → RequestsInOrder rs → IssuesAt last rs n (issue_turn last rs n)
issue_turn-issues last rs n b o =
    record {
      can = below-can last rs n (issue_turn last rs n) (omega arith);
      least = λ u can. can-below last rs n u b o can;
    }
