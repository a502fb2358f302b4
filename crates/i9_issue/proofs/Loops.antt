-- Steps of loops over the open records.
use Rattle.std.proofs.Common.{◌≡◌, ℕ, ◌+◌, ◌-◌, ◌^◌, ◌<◌, ◌≤◌, max, cond, false, ◌&&◌, List, [], ◌∷◌, ◌++◌, length, get_or, drop, take, set, reverse, sym, ap, ◌∙◌, subst, refl, inl, inr, arith}
use Rattle.std.specs.Prelude.{nat_lt}
use Rattle.std.specs.List.{AllByRecursion}
use Rattle.std.proofs.lemmas.List.{drop_more, drop-drop, get_or-drop, take_more, take_more_set, drop-set-lt, append_assoc, reverse-append, length-take-le, length-reverse}
use Rattle.std.proofs.lemmas.Bool.{cases_Bool, cases_lt, and_right, le-ltb, cond-true, cond-false}
use Rattle.i9_model.specs.declared.need.Need.{Need}
use Rattle.i9_model.specs.declared.need.TimedNeed.{TimedNeed}
use Rattle.i9_model.specs.Turns.{RequestsInOrder, Permits, CanIssue, IssuesAt, IsAllDone, open_at, open_requests, last_request, issue_turn, Pending, done_turn, done_from, HasCost}
use Rattle.i9_issue.specs.Room.{Fits, IsEarly}
use Rattle.i9_turns.proofs.TurnDropped.{each-open, open-yes, open-no, permits-done, last_request-yes, last_request-no, max-last_request-open}
use Rattle.i9_turns.proofs.TurnComputed.{issue_turn-issues}
use Rattle.i9_turns.proofs.TurnFences.{done_from-above, done_from-least}
use Rattle.i9_issue.proofs.Seven.{each-weaker, count-none, Fits-next, placed_at}

-- the turn that is computed is the issue turn
pub issues-computed : (p : Pending) (n : Need) (t : ℕ) → Fits p.last p.records → t ≡ issue_turn p.last p.records n → IssuesAt p.last p.records n t
issues-computed p n t f e = subst (λ u. IssuesAt p.last p.records n u) (sym e) (issue_turn-issues p.last p.records n f.issued f.in_order)

-- ---- when all is done

pub all_done-is : (p : Pending) (t : ℕ) → t ≡ done_from p.last p.records → IsAllDone p t × ((u : ℕ) → IsAllDone p u → t ≤ u)
all_done-is p t e =
    let above = done_from-above p.last t p.records (omega arith) in (
      record { in_order = above.0; done = above.1 },
      λ u a. let le : done_from p.last p.records ≤ u = done_from-least p.last u p.records a.in_order a.done in omega arith,
    )

pub all-from_open : (u v : ℕ) (rs : List TimedNeed) → u ≤ v → AllByRecursion (λ r. r.done ≤ v) (open_at u rs) → AllByRecursion (λ r. r.done ≤ v) rs
all-from_open u v [] le h = tt
all-from_open u v (r ∷ rs) le h =
    elim (cases_lt u r.done) [
      | inl later ↦
          let k = subst (AllByRecursion (λ r. r.done ≤ v)) (open-yes u r rs later) h in
          (k.0, all-from_open u v rs le k.1)
      | inr over ↦ (omega arith, all-from_open u v rs le (subst (AllByRecursion (λ r. r.done ≤ v)) (open-no u r rs over) h))
    ]

-- the turn at which all are done, once one more is placed
pub until-next : (last until t : ℕ) (rs : List TimedNeed) (r : TimedNeed) → until ≡ done_from last rs → last ≤ t → t < r.done → max until r.done ≡ done_from t (r ∷ open_at t rs)
until-next last until t rs r e le lt =
    let d : ℕ = r.done in
    let m : ℕ = max until d in
    let a : ℕ = done_from (max t d) (open_at t rs) in
    let old = done_from-above last until rs (omega (arith, e)) in
    let less : a ≤ m = done_from-least (max t d) m (open_at t rs) (omega arith) (each-open (λ r. r.done ≤ m) t rs (each-weaker (λ r. r.done ≤ until) (λ r. r.done ≤ m) (λ r k. omega arith) rs old.1)) in
    let above = done_from-above (max t d) a (open_at t rs) (omega arith) in
    let top : max t d ≤ a = above.0 in
    let more : done_from last rs ≤ a = done_from-least last a rs (omega arith) (all-from_open t a rs (omega arith) above.1) in
    omega (arith, less, top, more, e)

-- the turn at which the last request is done
pub request-turn : (last t asked : ℕ) (rs : List TimedNeed) → last ≤ t → max last asked ≡ max last (last_request rs) → max t asked ≡ max t (last_request rs)
request-turn last t asked rs le e = omega arith

pub request-next : (last t asked : ℕ) (rs : List TimedNeed) (r : TimedNeed) → last ≤ t → max last asked ≡ max last (last_request rs) → RequestsInOrder rs → max t (cond r.need.request r.done asked) ≡ max t (last_request (r ∷ open_at t rs))
request-next last t asked rs r le e order =
    let same = request-turn last t asked rs le e in
    let kept : max t (last_request (open_at t rs)) ≡ max t (last_request rs) = max-last_request-open t t (omega arith) rs order in
    elim (cases_Bool r.need.request) [
      | inl is ↦ ap (max t) (cond-true r.need.request r.done asked is ∙ sym (last_request-yes r (open_at t rs) is))
      | inr none ↦ ap (max t) (cond-false r.need.request r.done asked none) ∙ same ∙ sym kept ∙ ap (max t) (sym (last_request-no r (open_at t rs) none))
    ]

-- ---- no turn is late

pub early-done : (m : ℕ) (rs : List TimedNeed) → AllByRecursion (λ r. r.done < m) rs → AllByRecursion (λ r. r.done ≤ m - 1) rs
early-done m rs h = each-weaker (λ r. r.done < m) (λ r. r.done ≤ m - 1) (λ r lt. omega arith) rs h

-- where all is done the need may issue
pub can-late : (last : ℕ) (rs : List TimedNeed) (n : Need) (u : ℕ) → last ≤ u → n.not_before ≤ u → AllByRecursion (λ r. r.issue < r.done) rs → AllByRecursion (λ r. r.done ≤ u) rs → CanIssue last rs n u
can-late last rs n u a b time done =
    record {
      in_order = a;
      waited = b;
      each = permits-all n u rs time done;
      room = λ _.
          let none : open_requests u rs ≡ 0 = count-none (λ r. r.need.request && nat_lt u r.done) rs
          (each-weaker (λ r. r.done ≤ u) (λ r. (r.need.request && nat_lt u r.done) ≡ false) (λ r le. and_right r.need.request (nat_lt u r.done) (le-ltb u r.done le)) rs done) in
          omega (arith, none);
    }
  where
    permits-all : (n : Need) (u : ℕ) (rs : List TimedNeed) → AllByRecursion (λ r. r.issue < r.done) rs → AllByRecursion (λ r. r.done ≤ u) rs → AllByRecursion (Permits n u) rs
    permits-all n u [] t d = tt
    permits-all n u (r ∷ rs) t d = (permits-done n u r t.0 d.0, permits-all n u rs t.1 d.1)

pub take-time : (last : ℕ) (rs : List TimedNeed) → AllByRecursion (λ r. r.issue ≤ last) rs → AllByRecursion (λ r. last < r.done) rs → AllByRecursion (λ r. r.issue < r.done) rs
take-time last [] i o = tt
take-time last (r ∷ rs) i o = (let a : r.issue ≤ last = i.0 in let b : last < r.done = o.0 in omega arith, take-time last rs i.1 o.1)

pub issues-early : (p : Pending) (n : Need) (t : ℕ) → Fits p.last p.records → IsEarly p n → IssuesAt p.last p.records n t → t < 2 ^ 62
issues-early p n t f e h =
    let a : p.last < 2 ^ 62 = e.last in
    let b : n.not_before < 2 ^ 62 = e.waited in
    let u : ℕ = 2 ^ 62 - 1 in
    let le : t ≤ 2 ^ 62 - 1 = h.least (2 ^ 62 - 1) (can-late p.last p.records n (2 ^ 62 - 1) (omega arith) (omega arith) (take-time p.last p.records f.issued f.are_open) (early-done (2 ^ 62) p.records e.done)) in
    omega arith

pub last_request-early : (m : ℕ) (rs : List TimedNeed) → 0 < m → AllByRecursion (λ r. r.done < m) rs → last_request rs < m
last_request-early m [] z h = z
last_request-early m (r ∷ rs) z h =
    elim (cases_Bool r.need.request) [
      | inl is ↦ subst (λ k. k < m) (sym (last_request-yes r rs is)) h.0
      | inr none ↦ subst (λ k. k < m) (sym (last_request-no r rs none)) (last_request-early m rs z h.1)
    ]

pub place-fits : (p : Pending) (n : Need) (t d : ℕ) → Fits p.last p.records → HasCost n → IssuesAt p.last p.records n t → d ≡ done_turn p.records n t → Fits t (placed_at n t d ∷ open_at t p.records)
place-fits p n t d f c h e = Fits-next p.last p.records n t d f c h.can e

pub last_request-by : (m : ℕ) (rs : List TimedNeed) → AllByRecursion (λ r. r.done ≤ m) rs → last_request rs ≤ m
last_request-by m [] h = omega arith
last_request-by m (r ∷ rs) h =
    elim (cases_Bool r.need.request) [
      | inl is ↦ subst (λ k. k ≤ m) (sym (last_request-yes r rs is)) h.0
      | inr none ↦ subst (λ k. k ≤ m) (sym (last_request-no r rs none)) (last_request-by m rs h.1)
    ]

-- the turns grow by no more than the cost
pub place-bound : (p : Pending) (n : Need) (t d m : ℕ) → Fits p.last p.records → IssuesAt p.last p.records n t → d ≡ done_turn p.records n t → IsAllDone p m → n.not_before ≤ m → IsAllDone (record { last = t; records = placed_at n t d ∷ open_at t p.records }) (m + n.cost)
place-bound p n t d m f h e a w =
    let in_order : p.last ≤ m = a.in_order in
    let le : t ≤ m = h.least m (can-late p.last p.records n m in_order w (take-time p.last p.records f.issued f.are_open) a.done) in
    let req = last_request-by m p.records a.done in
    let start : cond n.request (max t (last_request p.records)) t ≤ m = elim (cases_Bool n.request) [
      | inl is ↦ omega (arith, req, cond-true n.request (max t (last_request p.records)) t is)
      | inr none ↦ omega (arith, cond-false n.request (max t (last_request p.records)) t none)
    ] in
    record {
      in_order = omega arith;
      done = (omega (arith, e, start), each-open (λ r. r.done ≤ m + n.cost) t p.records (each-weaker (λ r. r.done ≤ m) (λ r. r.done ≤ m + n.cost) (λ r k. omega arith) p.records a.done));
    }

-- ---- what is open is moved to the front

pub open-append : (u : ℕ) (a b : List TimedNeed) → open_at u (a ++ b) ≡ open_at u a ++ open_at u b
open-append u [] b = refl
open-append u (r ∷ a) b =
    elim (cases_lt u r.done) [
      | inl later ↦ open-yes u r (a ++ b) later ∙ ap (λ xs. r ∷ xs) (open-append u a b) ∙ ap (λ xs. xs ++ open_at u b) (sym (open-yes u r a later))
      | inr over ↦ open-no u r (a ++ b) over ∙ open-append u a b ∙ ap (λ xs. xs ++ open_at u b) (sym (open-no u r a over))
    ]

pub open-one : (u : ℕ) (r : TimedNeed) → reverse (open_at u (r ∷ [])) ≡ open_at u (r ∷ [])
open-one u r = grind (arith, cases_lt, reverse, open-yes, open-no)

-- the open ones from the other end
pub open-reverse : (u : ℕ) (rs : List TimedNeed) → open_at u (reverse rs) ≡ reverse (open_at u rs)
open-reverse u [] = refl
open-reverse u (r ∷ rs) =
    ap (open_at u) (reverse-append (r ∷ []) rs) ∙ open-append u (reverse rs) (r ∷ []) ∙ ap (λ xs. xs ++ open_at u (r ∷ [])) (open-reverse u rs) ∙ ap (λ xs. reverse (open_at u rs) ++ xs) (sym (open-one u r)) ∙ sym (reverse-append (open_at u (r ∷ [])) (open_at u rs)) ∙ ap reverse (sym (open-append u (r ∷ []) rs))

-- the next of so many places
pub next-place : (count k : ℕ) (rs : List TimedNeed) (d : TimedNeed) → k < count → count ≤ length rs → take (count - k) (drop k rs) ≡ get_or rs k d ∷ take (count - (k + 1)) (drop (k + 1) rs)
next-place count k rs d lt few = grind (arith, drop_more)

pub same-rest : (k : ℕ) (now before : List TimedNeed) → drop k now ≡ drop k before → drop (k + 1) now ≡ drop (k + 1) before
same-rest k now before same = sym (drop-drop 1 k now) ∙ ap (drop 1) same ∙ drop-drop 1 k before

pub same-place : (k : ℕ) (now before : List TimedNeed) (d : TimedNeed) → drop k now ≡ drop k before → get_or now k d ≡ get_or before k d
same-place k now before d same =
    let e : k + 0 ≡ k = omega arith in
    ap (λ j. get_or now j d) (sym e) ∙ sym (get_or-drop k now 0 d) ∙ ap (λ xs. get_or xs 0 d) same ∙ get_or-drop k before 0 d ∙ ap (λ j. get_or before j d) e

-- a place that is open is moved, and one that is not is passed over
pub kept-open : (u count k kept : ℕ) (now before : List TimedNeed) (d : TimedNeed) → k < count → count ≤ length before → kept ≤ k → length now ≡ length before → drop k now ≡ drop k before → u < (get_or now k d).done →
    take (kept + 1) (set now kept (get_or now k d)) ++ open_at u (take (count - (k + 1)) (drop (k + 1) before)) ≡ take kept now ++ open_at u (take (count - k) (drop k before))
kept-open u count k kept now before d lt few le whole same later =
    let r = get_or now k d in
    let rest = take (count - (k + 1)) (drop (k + 1) before) in
    let is_open : open_at u (take (count - k) (drop k before)) ≡ r ∷ open_at u rest =
    ap (open_at u) (next-place count k before d lt few ∙ ap (λ x. x ∷ rest) (sym (same-place k now before d same))) ∙ open-yes u r rest later in
    ap (λ xs. xs ++ open_at u rest) (take_more_set now kept r (omega arith)) ∙ append_assoc (take kept now) (r ∷ []) (open_at u rest) ∙ ap (λ xs. take kept now ++ xs) (sym is_open)

pub kept-over : (u count k : ℕ) (now before : List TimedNeed) (d : TimedNeed) → k < count → count ≤ length before → drop k now ≡ drop k before → (get_or now k d).done ≤ u →
    open_at u (take (count - (k + 1)) (drop (k + 1) before)) ≡ open_at u (take (count - k) (drop k before))
kept-over u count k now before d lt few same over =
    let r = get_or now k d in
    let rest = take (count - (k + 1)) (drop (k + 1) before) in
    sym (ap (open_at u) (next-place count k before d lt few ∙ ap (λ x. x ∷ rest) (sym (same-place k now before d same))) ∙ open-no u r rest over)

pub rest-after-set : (k kept : ℕ) (now before : List TimedNeed) (r : TimedNeed) → kept ≤ k → drop k now ≡ drop k before → drop (k + 1) (set now kept r) ≡ drop (k + 1) before
rest-after-set k kept now before r le same = drop-set-lt (k + 1) now kept r (omega arith) ∙ same-rest k now before same

-- the newest of so many places, the oldest first
pub newest-place : (count k : ℕ) (rs : List TimedNeed) (d : TimedNeed) → k < count → count ≤ length rs → reverse (take (count - k) rs) ≡ get_or rs (count - 1 - k) d ∷ reverse (take (count - (k + 1)) rs)
newest-place count k rs d lt few =
    let m = count - (k + 1) in
    let e : count - k ≡ m + 1 = omega arith in
    let at : count - 1 - k ≡ m = omega arith in
    ap (λ j. reverse (take j rs)) e ∙ ap reverse (take_more rs m d (omega arith)) ∙ reverse-append (take m rs) (get_or rs m d ∷ []) ∙ ap (λ j. get_or rs j d ∷ reverse (take m rs)) (sym at)

-- the list once a record is placed behind those that are open
pub placed-list : (u count kept : ℕ) (now before : List TimedNeed) (r : TimedNeed) → kept < length now → take kept now ≡ open_at u (take count before) → reverse (take (kept + 1) (set now kept r)) ≡ r ∷ open_at u (reverse (take count before))
placed-list u count kept now before r lt same = grind (arith, reverse, take_more_set, reverse-append, open-reverse)

pub kept-length : (u count kept : ℕ) (now before : List TimedNeed) → kept ≤ length now → take kept now ≡ open_at u (take count before) → kept ≡ length (open_at u (reverse (take count before)))
kept-length u count kept now before le same = grind (arith, length-take-le, length-reverse, open-reverse)
