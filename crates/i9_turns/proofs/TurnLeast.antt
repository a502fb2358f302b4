-- The turns are the least solution of the rules.
use Rattle.std.proofs.Common.{◌≡◌, ℕ, ◌≤◌, ◌&&◌, List, [], ◌∷◌, ap, arith}
use Rattle.std.specs.Prelude.{nat_lt, map}
use Rattle.std.specs.List.{AllByRecursion, AllZip}
use Rattle.std.proofs.lemmas.Bool.Decides.{nat_tests}
use Rattle.i9_model.specs.declared.need.Need.{Need}
use Rattle.i9_model.specs.declared.need.TimedNeed.{TimedNeed}
use Rattle.i9_model.specs.Turns.{Permits, CanIssue, IsTimed, Solves, IsNoLater, open_requests, done_turn, last_request, last_issue}
use Rattle.i9_turns.proofs.TurnComputed.{IssuedBy, issued-later, open_requests-cons, one_if}

abbrev pub NoLater : List TimedNeed → List TimedNeed → Type 0
NoLater xs ys = AllZip IsNoLater xs ys

pub solves-issued : (rs : List TimedNeed) → Solves rs → IssuedBy (last_issue rs) rs
solves-issued [] h = tt
solves-issued (r ∷ rs) h = (omega arith, issued-later (last_issue rs) r.issue h.0.in_order rs (solves-issued rs h.2))

pub last-no_later : (xs ys : List TimedNeed) → NoLater xs ys → last_issue xs ≤ last_issue ys
last-no_later xs ys h = grind arith

pub permits-no_later : (n : Need) (t : ℕ) (x y : TimedNeed) → y.issue ≤ t → IsNoLater x y → Permits n t y → Permits n t x
permits-no_later n t x y before h p = grind arith

pub each-no_later : (n : Need) (t : ℕ) (xs ys : List TimedNeed) → IssuedBy t ys → NoLater xs ys → AllByRecursion (Permits n t) ys → AllByRecursion (Permits n t) xs
each-no_later n t [] [] b h p = tt
each-no_later n t (x ∷ xs) (y ∷ ys) b h p = (permits-no_later n t x y b.0 h.0 p.0, each-no_later n t xs ys b.1 h.1 p.1)
each-no_later n t _ _ b h p = absurd h

pub one-no_later : (t : ℕ) (x y : TimedNeed) → IsNoLater x y → one_if (x.need.request && nat_lt t x.done) ≤ one_if (y.need.request && nat_lt t y.done)
one-no_later t x y h = grind arith

pub requests-no_later : (t : ℕ) (xs ys : List TimedNeed) → NoLater xs ys → open_requests t xs ≤ open_requests t ys
requests-no_later t [] [] h = omega arith
requests-no_later t (x ∷ xs) (y ∷ ys) h =
    omega (arith, requests-no_later t xs ys h.1, one-no_later t x y h.0, open_requests-cons t x xs, open_requests-cons t y ys)
requests-no_later t _ _ h = absurd h

pub last_request-no_later : (xs ys : List TimedNeed) → NoLater xs ys → last_request xs ≤ last_request ys
last_request-no_later [] [] h = omega arith
last_request-no_later (x ∷ xs) (y ∷ ys) h = grind (arith, nat_tests, last_request-no_later xs ys h.1)
last_request-no_later _ _ h = absurd h

pub can-no_later : (xs ys : List TimedNeed) (n : Need) (t : ℕ) → IssuedBy (last_issue ys) ys → NoLater xs ys → CanIssue (last_issue ys) ys n t → CanIssue (last_issue xs) xs n t
can-no_later xs ys n t b h c =
    let le : last_issue ys ≤ t = c.in_order in
    record {
      in_order = omega (arith, last-no_later xs ys h);
      waited = c.waited;
      each = each-no_later n t xs ys (issued-later (last_issue ys) t le ys b) h c.each;
      room = λ q. let few : open_requests t ys ≤ 2 = c.room q in omega (arith, requests-no_later t xs ys h);
    }

pub done-no_later : (xs ys : List TimedNeed) (n : Need) (t u : ℕ) → NoLater xs ys → t ≤ u → done_turn xs n t ≤ done_turn ys n u
done-no_later xs ys n t u h le = grind (arith, nat_tests, last_request-no_later)

pub timed-least : (xs ys : List TimedNeed) → IsTimed xs → Solves ys → map (λ r. r.need) xs ≡ map (λ r. r.need) ys → NoLater xs ys
timed-least [] [] h s e = tt
timed-least (x ∷ xs) (y ∷ ys) h s e =
    let need : x.need ≡ y.need = cc in
    let needs : map (λ r. r.need) xs ≡ map (λ r. r.need) ys = cc in
    let rest = timed-least xs ys h.1 s.2 needs in
    let issue : x.issue ≤ y.issue = h.0.issue.least y.issue (rw need (can-no_later xs ys y.need y.issue (solves-issued ys s.2) rest s.0)) in
    let le : done_turn xs x.need x.issue ≤ done_turn ys x.need y.issue = done-no_later xs ys x.need x.issue y.issue rest issue in
    let same : done_turn ys x.need y.issue ≡ done_turn ys y.need y.issue = ap (λ n. done_turn ys n y.issue) need in
    (record { need = need; issue = issue; done = omega (arith, h.0.done, s.1, le, same) }, rest)
timed-least _ _ h s e = absurd cc

pub timed-solves : (rs : List TimedNeed) → IsTimed rs → Solves rs
timed-solves [] h = tt
timed-solves (r ∷ rs) h = (h.0.issue.can, h.0.done, timed-solves rs h.1)
