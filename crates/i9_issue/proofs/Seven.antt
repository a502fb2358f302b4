-- At most seven records are open.
use Rattle.std.proofs.Common.{◌≡◌, ℕ, ◌+◌, ◌<◌, ◌≤◌, max, Bool, true, false, ◌&&◌, ◌||◌, List, [], ◌∷◌, length, sym, refl, ap, ◌∙◌, subst, inl, inr, arith}
use Rattle.std.specs.Prelude.{IsTrue, nat_lt, nat_eq, not}
use Rattle.std.specs.List.{AllByRecursion, count_by}
use Rattle.std.proofs.lemmas.Bool.{cases_Bool, cases_lt, cond-true, cond-false, lt-ltb, le-ltb, eq-eqb, eqb-true, ne_eqb, or_left, or_from, or_parts, and_from, and_parts, and_left, and_right, not-true, not_from_false, false_from_ne_true, false≢true}
use Rattle.std.proofs.lemmas.List.Sums.{sum_by-cons}
use Rattle.i9_isa.specs.declared.inst.Side.{Side}
use Rattle.i9_isa.specs.declared.inst.Side.TheVariants.{Reg, Mem, Ctl}
use Rattle.i9_model.specs.declared.need.Need.{Need}
use Rattle.i9_model.specs.declared.need.TimedNeed.{TimedNeed}
use Rattle.i9_model.specs.Turns.{Permits, CanIssue, open_at, open_requests, done_turn, last_request, same_side, keeps_side, is_plain, HasCost}
use Rattle.i9_issue.specs.Room.{Fits}
use Rattle.i9_turns.proofs.TurnDropped.{open-yes, open-no, each-open, max-last_request-open}
use Rattle.i9_turns.proofs.TurnPending.{open-in_order}
use Rattle.i9_turns.proofs.TurnOpen.{done-after}
use Rattle.i9_turns.proofs.TurnComputed.{one_if, issued-later}
use Rattle.i9_turns.proofs.TurnThree.{at_side, same_side-join, one-true, one-false}

-- ---- counting

pub count-cons : (p : TimedNeed → Bool) (r : TimedNeed) (rs : List TimedNeed) → count_by p (r ∷ rs) ≡ one_if (p r) + count_by p rs
count-cons p r rs = sum_by-cons (λ x. one_if (p x)) r rs

pub one-le : (b : Bool) → one_if b ≤ 1
one-le b = grind arith

pub count-open-le : (p : TimedNeed → Bool) (u : ℕ) (rs : List TimedNeed) → count_by p (open_at u rs) ≤ count_by p rs
count-open-le p u [] = omega arith
count-open-le p u (r ∷ rs) =
    let rest = count-open-le p u rs in
    let whole = count-cons p r rs in
    elim (cases_lt u r.done) [
      | inl later ↦
          let e : count_by p (open_at u (r ∷ rs)) ≡ one_if (p r) + count_by p (open_at u rs) = ap (count_by p) (open-yes u r rs later) ∙ count-cons p r (open_at u rs) in
          omega (arith, rest, whole, e)
      | inr over ↦
          let e : count_by p (open_at u (r ∷ rs)) ≡ count_by p (open_at u rs) = ap (count_by p) (open-no u r rs over) in
          omega (arith, rest, whole, e)
    ]

pub count-open-and : (p : TimedNeed → Bool) (u : ℕ) (rs : List TimedNeed) → count_by p (open_at u rs) ≡ count_by (λ r. p r && nat_lt u r.done) rs
count-open-and p u [] = refl
count-open-and p u (r ∷ rs) =
    let q : TimedNeed → Bool = λ r. p r && nat_lt u r.done in
    let rest : count_by p (open_at u rs) ≡ count_by q rs = count-open-and p u rs in
    let whole = count-cons q r rs in
    elim (cases_lt u r.done) [
      | inl later ↦
          let e : count_by p (open_at u (r ∷ rs)) ≡ one_if (p r) + count_by p (open_at u rs) = ap (count_by p) (open-yes u r rs later) ∙ count-cons p r (open_at u rs) in
          let same : one_if (p r) ≡ one_if (p r && nat_lt u r.done) = elim (cases_Bool (p r)) [
            | inl is ↦ one-true (p r) is ∙ sym (one-true (p r && nat_lt u r.done) (and_from (p r) (nat_lt u r.done) is (lt-ltb u r.done later)))
            | inr none ↦ one-false (p r) none ∙ sym (one-false (p r && nat_lt u r.done) (and_left (p r) (nat_lt u r.done) none))
          ] in
          omega (arith, rest, whole, e, same)
      | inr over ↦
          let e : count_by p (open_at u (r ∷ rs)) ≡ count_by p (open_at u rs) = ap (count_by p) (open-no u r rs over) in
          let none : one_if (p r && nat_lt u r.done) ≡ 0 = one-false (p r && nat_lt u r.done) (and_right (p r) (nat_lt u r.done) (le-ltb u r.done over)) in
          omega (arith, rest, whole, e, none)
    ]

pub count-none : (p : TimedNeed → Bool) (rs : List TimedNeed) → AllByRecursion (λ r. p r ≡ false) rs → count_by p rs ≡ 0
count-none p [] h = refl
count-none p (r ∷ rs) h = omega (arith, count-cons p r rs, count-none p rs h.1, one-false (p r) h.0)

pub each-weaker : (P Q : TimedNeed → Type 0) → ((r : TimedNeed) → P r → Q r) → (rs : List TimedNeed) → AllByRecursion P rs → AllByRecursion Q rs
each-weaker P Q f [] h = tt
each-weaker P Q f (r ∷ rs) h = (f r h.0, each-weaker P Q f rs h.1)

pub each-is_open : (u : ℕ) (rs : List TimedNeed) → AllByRecursion (λ r. u < r.done) (open_at u rs)
each-is_open u [] = tt
each-is_open u (r ∷ rs) =
    let P : List TimedNeed → Type 0 = λ xs. AllByRecursion (λ r. u < r.done) xs in
    elim (cases_lt u r.done) [
      | inl later ↦ subst P (sym (open-yes u r rs later)) (later, each-is_open u rs)
      | inr over ↦ subst P (sym (open-no u r rs over)) (each-is_open u rs)
    ]

-- what is done where the test passes leaves none open that passes
pub count-open-none : (p : TimedNeed → Bool) (u : ℕ) (rs : List TimedNeed) → AllByRecursion (λ r. p r ≡ true → r.done ≤ u) rs → count_by p (open_at u rs) ≡ 0
count-open-none p u rs h =
    let q : TimedNeed → Bool = λ r. p r && nat_lt u r.done in
    count-open-and p u rs ∙
    count-none q rs (each-weaker (λ r. p r ≡ true → r.done ≤ u) (λ r. q r ≡ false)
    (λ r f. elim (cases_Bool (p r)) [ inl is ↦ and_right (p r) (nat_lt u r.done) (le-ltb u r.done (f is)) | inr none ↦ and_left (p r) (nat_lt u r.done) none ]) rs h)

pub open-none : (u : ℕ) (rs : List TimedNeed) → AllByRecursion (λ r. r.done ≤ u) rs → open_at u rs ≡ []
open-none u [] h = refl
open-none u (r ∷ rs) h = open-no u r rs h.0 ∙ open-none u rs h.1

-- ---- the bound

abbrev pub kinds : ℕ → TimedNeed → ℕ
kinds last r =
    one_if r.need.request + one_if r.need.slow + one_if r.need.barrier + one_if (at_side Reg last r) + one_if (at_side Mem last r) + one_if (at_side Ctl last r)

pub same_side-some : (last : ℕ) (r : TimedNeed) → r.issue ≡ last → 1 ≤ one_if (at_side Reg last r) + one_if (at_side Mem last r) + one_if (at_side Ctl last r)
same_side-some last r e = grind (arith, eq-eqb, one_if, false≢true)

pub plain-from : (n : Need) → n.request ≡ false → n.slow ≡ false → n.barrier ≡ false → IsTrue (is_plain n)
plain-from n a b c = not_from_false (n.request || n.slow || n.barrier) (or_from (n.request || n.slow) n.barrier (or_from n.request n.slow a b) c)

pub one-kind : (last : ℕ) (r : TimedNeed) → r.issue ≤ last → last < r.done → (IsTrue (is_plain r.need) → r.done ≡ r.issue + 1) → 1 ≤ kinds last r
one-kind last r le lt plain = grind (arith, cases_Bool, one-true, plain-from, same_side-some)

pub length-kinds : (last : ℕ) (rs : List TimedNeed) → AllByRecursion (λ r. r.issue ≤ last) rs → AllByRecursion (λ r. last < r.done) rs → AllByRecursion (λ r. IsTrue (is_plain r.need) → r.done ≡ r.issue + 1) rs →
    length rs ≤ count_by (λ r. r.need.request) rs + count_by (λ r. r.need.slow) rs + count_by (λ r. r.need.barrier) rs + count_by (at_side Reg last) rs + count_by (at_side Mem last) rs + count_by (at_side Ctl last) rs
length-kinds last [] i o p = omega arith
length-kinds last (r ∷ rs) i o p =
    omega (arith, length-kinds last rs i.1 o.1 p.1, one-kind last r i.0 o.0 p.0, count-cons (λ r. r.need.request) r rs, count-cons (λ r. r.need.slow) r rs, count-cons (λ r. r.need.barrier) r rs, count-cons (at_side Reg last) r rs, count-cons (at_side Mem last) r rs, count-cons (at_side Ctl last) r rs)

pub at_most_seven : (last : ℕ) (rs : List TimedNeed) → Fits last rs → length rs ≤ 7
at_most_seven last rs f =
    elim (cases_lt 0 (count_by (λ r. r.need.barrier) rs)) [
      | inl some ↦ let one : length rs ≤ 1 = f.barrier some in omega arith
      | inr none ↦ omega (arith, length-kinds last rs f.issued f.are_open f.plain, f.requests, f.slow, f.sides Reg, f.sides Mem, f.sides Ctl, none)
    ]

-- ---- the facts are kept

-- a record with its turns after the open ones
abbrev pub placed_at : Need → ℕ → ℕ → TimedNeed
placed_at n t d = record { need = n; issue = t; done = d }

pub plain-done : (rs : List TimedNeed) (n : Need) (t : ℕ) → HasCost n → IsTrue (is_plain n) → done_turn rs n t ≡ t + 1
plain-done rs n t c h = grind (arith, or_parts, not-true, cond-false)

pub next-requests : (last : ℕ) (rs : List TimedNeed) (n : Need) (t d : ℕ) → Fits last rs → CanIssue last rs n t → count_by (λ r. r.need.request) (placed_at n t d ∷ open_at t rs) ≤ 3
next-requests last rs n t d f can =
    let e = count-cons (λ r. r.need.request) (placed_at n t d) (open_at t rs) in
    elim (cases_Bool n.request) [
      | inl is ↦
          let few : open_requests t rs ≤ 2 = can.room is in
          omega (arith, e, few, count-open-and (λ r. r.need.request) t rs, one-true n.request is)
      | inr not ↦ omega (arith, e, f.requests, count-open-le (λ r. r.need.request) t rs, one-false n.request not)
    ]

pub next-slow : (last : ℕ) (rs : List TimedNeed) (n : Need) (t d : ℕ) → Fits last rs → CanIssue last rs n t → count_by (λ r. r.need.slow) (placed_at n t d ∷ open_at t rs) ≤ 1
next-slow last rs n t d f can =
    let e = count-cons (λ r. r.need.slow) (placed_at n t d) (open_at t rs) in
    elim (cases_Bool n.slow) [
      | inl is ↦
          let none : count_by (λ r. r.need.slow) (open_at t rs) ≡ 0 =
          count-open-none (λ r. r.need.slow) t rs (each-weaker (Permits n t) (λ r. r.need.slow ≡ true → r.done ≤ t) (λ r p. p.slow is) rs can.each) in
          omega (arith, e, none, one-le n.slow)
      | inr not ↦ omega (arith, e, f.slow, count-open-le (λ r. r.need.slow) t rs, one-false n.slow not)
    ]

pub next-sides : (last : ℕ) (rs : List TimedNeed) (n : Need) (t d : ℕ) → Fits last rs → CanIssue last rs n t → (side : Side) → count_by (at_side side t) (placed_at n t d ∷ open_at t rs) ≤ 1
next-sides last rs n t d f can side =
    let e = count-cons (at_side side t) (placed_at n t d) (open_at t rs) in
    let fewer = count-open-le (at_side side t) t rs in
    elim (cases_lt last t) [
      | inl lt ↦
          let none : count_by (at_side side t) rs ≡ 0 =
          count-none (at_side side t) rs (each-weaker (λ r. r.issue ≤ last) (λ r. at_side side t r ≡ false)
          (λ r le. and_right (same_side side r.need.side) (nat_eq r.issue t) (ne_eqb r.issue t (λ same. omega arith))) rs f.issued) in
          omega (arith, e, fewer, none, one-le (at_side side t (placed_at n t d)))
      | inr ge ↦
          let in_order : last ≤ t = can.in_order in
          let at : last ≡ t = omega arith in
          let old : count_by (at_side side t) rs ≤ 1 = subst (λ u. count_by (at_side side u) rs ≤ 1) at (f.sides side) in
          elim (cases_Bool (same_side side n.side)) [
            | inr other ↦ omega (arith, e, fewer, old, one-false (at_side side t (placed_at n t d)) (and_left (same_side side n.side) (nat_eq t t) other))
            | inl same ↦
                let none : count_by (at_side side t) rs ≡ 0 =
                count-none (at_side side t) rs (each-weaker (Permits n t) (λ r. at_side side t r ≡ false)
                (λ r p. false_from_ne_true (at_side side t r) (λ yes_at.
                let q = and_parts (same_side side r.need.side) (nat_eq r.issue t) yes_at in
                let keeps : IsTrue (keeps_side r.need.side n) =
                or_left (same_side r.need.side n.side) (same_side r.need.side Ctl) (same_side-join side r.need.side n.side q.0 same) in
                p.side keeps (eqb-true r.issue t q.1))) rs can.each) in
                omega (arith, e, fewer, none, one-le (at_side side t (placed_at n t d)))
          ]
    ]

pub next-barrier : (last : ℕ) (rs : List TimedNeed) (n : Need) (t d : ℕ) → CanIssue last rs n t → 0 < count_by (λ r. r.need.barrier) (placed_at n t d ∷ open_at t rs) → length (placed_at n t d ∷ open_at t rs) ≤ 1
next-barrier last rs n t d can some =
    let e = count-cons (λ r. r.need.barrier) (placed_at n t d) (open_at t rs) in
    let none : count_by (λ r. r.need.barrier) (open_at t rs) ≡ 0 =
    count-open-none (λ r. r.need.barrier) t rs (each-weaker (Permits n t) (λ r. r.need.barrier ≡ true → r.done ≤ t) (λ r p. p.barrier) rs can.each) in
    elim (cases_Bool n.barrier) [
      | inr not ↦ absurd (omega (arith, e, none, some, one-false n.barrier not))
      | inl is ↦
          let all : open_at t rs ≡ [] = open-none t rs (each-weaker (Permits n t) (λ r. r.done ≤ t) (λ r p. p.alone (inl is)) rs can.each) in
          subst (λ xs. length (placed_at n t d ∷ xs) ≤ 1) (sym all) (omega arith)
    ]

pub Fits-next : (last : ℕ) (rs : List TimedNeed) (n : Need) (t d : ℕ) → Fits last rs → HasCost n → CanIssue last rs n t → d ≡ done_turn rs n t → Fits t (placed_at n t d ∷ open_at t rs)
Fits-next last rs n t d f c can e =
    let in_order : last ≤ t = can.in_order in
    let same : max t (last_request (open_at t rs)) ≡ max t (last_request rs) = max-last_request-open t t (omega arith) rs f.in_order in
    record {
      issued = (omega arith, each-open (λ r. r.issue ≤ t) t rs (issued-later last t in_order rs f.issued));
      are_open = (subst (λ u. t < u) (sym e) (done-after rs n t c.some), each-is_open t rs);
      plain = (λ p. e ∙ plain-done rs n t c p, each-open (λ r. IsTrue (is_plain r.need) → r.done ≡ r.issue + 1) t rs f.plain);
      in_order = (λ is. omega (arith, e, same, cond-true n.request (max t (last_request rs)) t is), open-in_order t rs f.in_order);
      requests = next-requests last rs n t d f can;
      slow = next-slow last rs n t d f can;
      sides = next-sides last rs n t d f can;
      barrier = next-barrier last rs n t d can;
    }
