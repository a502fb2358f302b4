-- After a barrier the turns depend on what follows it alone.
use Rattle.std.proofs.Common.{◌≡◌, ℕ, ◌+◌, ◌-◌, ◌<◌, ◌≤◌, max, cond, ◌&&◌, ltb, List, [], ◌∷◌, ◌++◌, sym, refl, ap, ◌∙◌, subst, arith}
use Rattle.std.specs.Prelude.{IsTrue, nat_lt, map}
use Rattle.std.specs.List.{AllByRecursion}
use Rattle.std.proofs.lemmas.List.Sums.{sum_by-cons}
use Rattle.std.proofs.lemmas.Bool.Decides.{nat_tests}
use Rattle.i9_model.specs.declared.need.Need.{Need}
use Rattle.i9_model.specs.declared.need.TimedNeed.{TimedNeed}
use Rattle.i9_model.specs.Turns.{Permits, CanIssue, IssuesAt, IsTimed, TakesTurns, open_at, open_requests, done_turn, last_request, last_issue, later, later_by, WaitForNone, timed, overtakes}
use Rattle.i9_turns.proofs.TurnDropped.{TakeTime, open-yes, open-no, can-open, open-can, done_turn-open, issues-once}
use Rattle.i9_turns.proofs.TurnOpen.{timed-take_time, timed-in_order}
use Rattle.i9_turns.proofs.TurnWhole.{IsTimed-timed, needs-timed}

-- the turn of the last record, at first the base
abbrev pub last_from : ℕ → List TimedNeed → ℕ
last_from base [] = base
last_from base (r ∷ rs) = r.issue

pub record FollowsFrom (base : ℕ) (rs : List TimedNeed) (r : TimedNeed) : Type 0 where
  pub issue : IssuesAt (last_from base rs) rs r.need r.issue
  pub done : r.done ≡ done_turn rs r.need r.issue

abbrev pub IsTimedFrom : ℕ → List TimedNeed → Type 0
IsTimedFrom base [] = Unit {0}
IsTimedFrom base (r ∷ rs) = FollowsFrom base rs r × IsTimedFrom base rs

pub last_issue-from : (rs : List TimedNeed) → last_issue rs ≡ last_from 1 rs
last_issue-from rs = grind arith

pub from-IsTimed : (rs : List TimedNeed) → IsTimed rs → IsTimedFrom 1 rs
from-IsTimed [] h = tt
from-IsTimed (r ∷ rs) h = grind (arith, last_issue-from, from-IsTimed rs h.1)

-- ---- the past of a barrier

pub each-front : (P : TimedNeed → Type 0) (xs ys : List TimedNeed) → AllByRecursion P (xs ++ ys) → AllByRecursion P xs
each-front P [] ys h = tt
each-front P (x ∷ xs) ys h = (h.0, each-front P xs ys h.1)

pub each-back : (P : TimedNeed → Type 0) (xs ys : List TimedNeed) → AllByRecursion P (xs ++ ys) → AllByRecursion P ys
each-back P [] ys h = h
each-back P (x ∷ xs) ys h = each-back P xs ys h.1

pub timed-back : (xs ys : List TimedNeed) → IsTimed (xs ++ ys) → IsTimed ys
timed-back [] ys h = h
timed-back (x ∷ xs) ys h = timed-back xs ys h.1

pub open-all : (u : ℕ) (xs ys : List TimedNeed) → AllByRecursion (λ r. u < r.done) xs → AllByRecursion (λ r. r.done ≤ u) ys → open_at u (xs ++ ys) ≡ xs
open-all u [] [] h k = refl
open-all u [] (y ∷ ys) h k = open-no u y ys k.0 ∙ open-all u [] ys tt k.1
open-all u (x ∷ xs) ys h k = open-yes u x (xs ++ ys) h.0 ∙ ap (λ zs. x ∷ zs) (open-all u xs ys h.1 k)

-- each record issues at the base or later
pub from-base : (base : ℕ) (rs : List TimedNeed) → IsTimedFrom base rs → base ≤ last_from base rs
from-base base [] h = omega arith
from-base base (r ∷ rs) h = grind (arith, from-base base rs h.1)

pub from-later : (base : ℕ) (rs : List TimedNeed) → IsTimedFrom base rs → TakeTime rs → AllByRecursion (λ r. base < r.done) rs
from-later base [] h w = tt
from-later base (r ∷ rs) h w = grind (arith, from-base, from-later base rs h.1 w.1)

-- all before a barrier is done when the barrier is
pub before-barrier : (b : TimedNeed) (rs : List TimedNeed) → IsTrue b.need.barrier → b.issue < b.done → AllByRecursion (Permits b.need b.issue) rs → AllByRecursion (λ r. r.done ≤ b.done) rs
before-barrier b [] is time h = tt
before-barrier b (r ∷ rs) is time h = grind (arith, before-barrier b rs is time h.1)

-- the last turn of a list with a barrier in it is no later than that of what follows it, from the barrier's done
-- turn on
pub last-le : (xs : List TimedNeed) (b : TimedNeed) (ys : List TimedNeed) → b.issue < b.done → last_issue (xs ++ b ∷ ys) ≤ last_from b.done xs
last-le xs b ys h = grind arith

pub from-le : (xs : List TimedNeed) (b : TimedNeed) (ys : List TimedNeed) (t : ℕ) → b.done ≤ t → last_issue (xs ++ b ∷ ys) ≤ t → last_from b.done xs ≤ t
from-le xs b ys t h k = grind arith

pub with-last : (last other : ℕ) (rs : List TimedNeed) (n : Need) (t : ℕ) → other ≤ t → CanIssue last rs n t → CanIssue other rs n t
with-last last other rs n t le h = record { in_order = le; waited = h.waited; each = h.each; room = h.room }

-- what may issue after a barrier and these records may issue after these records alone
pub can-after : (xs : List TimedNeed) (b : TimedNeed) (ys : List TimedNeed) (n : Need) (t : ℕ) → IsTrue b.need.barrier → open_at b.done (xs ++ b ∷ ys) ≡ xs → CanIssue (last_issue (xs ++ b ∷ ys)) (xs ++ b ∷ ys) n t → CanIssue (last_from b.done xs) xs n t
can-after xs b ys n t is e h =
    let at : AllByRecursion (Permits n t) (b ∷ ys) = each-back (Permits n t) xs (b ∷ ys) h.each in
    let le : b.done ≤ t = at.0.barrier is in
    let k = subst (λ zs. CanIssue (last_issue (xs ++ b ∷ ys)) zs n t) e (can-open b.done (last_issue (xs ++ b ∷ ys)) (xs ++ b ∷ ys) n t le h) in
    with-last (last_issue (xs ++ b ∷ ys)) (last_from b.done xs) xs n t (from-le xs b ys t le h.in_order) k

pub after-can : (xs : List TimedNeed) (b : TimedNeed) (ys : List TimedNeed) (n : Need) (t : ℕ) → b.issue < b.done → b.done ≤ last_from b.done xs → TakeTime (xs ++ b ∷ ys) → open_at b.done (xs ++ b ∷ ys) ≡ xs → CanIssue (last_from b.done xs) xs n t → CanIssue (last_issue (xs ++ b ∷ ys)) (xs ++ b ∷ ys) n t
after-can xs b ys n t time base w e h =
    let in_order : last_from b.done xs ≤ t = h.in_order in
    let last_le = last-le xs b ys time in
    let last = last_issue (xs ++ b ∷ ys) in
    let k = with-last (last_from b.done xs) last xs n t (omega (arith, last_le, in_order)) h in
    open-can b.done last (xs ++ b ∷ ys) n t (omega (arith, base, in_order)) w (subst (λ zs. CanIssue last zs n t) (sym e) k)

pub timed-after : (xs : List TimedNeed) (b : TimedNeed) (ys : List TimedNeed) → IsTrue b.need.barrier → IsTimed (xs ++ b ∷ ys) → TakesTurns (xs ++ b ∷ ys) → IsTimedFrom b.done xs
timed-after [] b ys is h c = tt
timed-after (x ∷ xs) b ys is h c =
    let rest = timed-after xs b ys is h.1 c.1 in
    let all = xs ++ b ∷ ys in
    let w : TakeTime (xs ++ b ∷ ys) = timed-take_time (xs ++ b ∷ ys) h.1 c.1 in
    let wb : TakeTime (b ∷ ys) = each-back (λ r. r.issue < r.done) xs (b ∷ ys) w in
    let hb : IsTimed (b ∷ ys) = timed-back xs (b ∷ ys) h.1 in
    let done : AllByRecursion (λ r. r.done ≤ b.done) (b ∷ ys) = (omega arith, before-barrier b ys is wb.0 hb.0.issue.can.each) in
    let e : open_at b.done (xs ++ b ∷ ys) ≡ xs =
    open-all b.done xs (b ∷ ys) (from-later b.done xs rest (each-front (λ r. r.issue < r.done) xs (b ∷ ys) w)) done in
    let base = from-base b.done xs rest in
    let f = h.0 in
    let can : CanIssue (last_from b.done xs) xs x.need x.issue = can-after xs b ys x.need x.issue is e f.issue.can in
    let in_order : last_from b.done xs ≤ x.issue = can.in_order in (
      record {
        issue = record { can = can; least = λ u k. f.issue.least u (after-can xs b ys x.need u wb.0 base w e k) };
        done = f.done ∙ sym (done_turn-open b.done x.issue (omega (arith, base, in_order)) (xs ++ b ∷ ys) x.need (timed-in_order (xs ++ b ∷ ys) h.1)) ∙ ap (λ zs. done_turn zs x.need x.issue) e;
      },
      rest,
    )

-- ---- the same, later

pub later-permits : (d : ℕ) (n : Need) (t : ℕ) (r : TimedNeed) → Permits n t r → Permits n (t + d) (later d r)
later-permits d n t r p = grind arith

pub permits-sooner : (d : ℕ) (n : Need) (t : ℕ) (r : TimedNeed) → Permits n (t + d) (later d r) → Permits n t r
permits-sooner d n t r p = grind arith

pub later-each : (d : ℕ) (n : Need) (t : ℕ) (rs : List TimedNeed) → AllByRecursion (Permits n t) rs → AllByRecursion (Permits n (t + d)) (later_by d rs)
later-each d n t [] h = tt
later-each d n t (r ∷ rs) h = (later-permits d n t r h.0, later-each d n t rs h.1)

pub each-sooner : (d : ℕ) (n : Need) (t : ℕ) (rs : List TimedNeed) → AllByRecursion (Permits n (t + d)) (later_by d rs) → AllByRecursion (Permits n t) rs
each-sooner d n t [] h = tt
each-sooner d n t (r ∷ rs) h = (permits-sooner d n t r h.0, each-sooner d n t rs h.1)

pub ltb-later : (d a b : ℕ) → ltb (a + d) (b + d) ≡ ltb a b
ltb-later d a b = grind (arith, nat_tests)

abbrev pub open_one : ℕ → TimedNeed → ℕ
open_one t r = cond (r.need.request && nat_lt t r.done) 1 0

pub open_requests-later : (d t : ℕ) (rs : List TimedNeed) → open_requests (t + d) (later_by d rs) ≡ open_requests t rs
open_requests-later d t [] = refl
open_requests-later d t (r ∷ rs) =
    let a = sum_by-cons (open_one (t + d)) (later d r) (later_by d rs) in
    let b = sum_by-cons (open_one t) r rs in
    let same : open_one (t + d) (later d r) ≡ open_one t r = ap (λ k. cond (r.need.request && k) 1 0) (ltb-later d t r.done) in
    omega (arith, a, b, same, open_requests-later d t rs)

pub later-can : (d last : ℕ) (rs : List TimedNeed) (n : Need) (t : ℕ) → CanIssue last rs n t → CanIssue (last + d) (later_by d rs) n (t + d)
later-can d last rs n t h =
    let a : last ≤ t = h.in_order in
    let b : n.not_before ≤ t = h.waited in
    record {
      in_order = omega arith;
      waited = omega arith;
      each = later-each d n t rs h.each;
      room = λ q. let few : open_requests t rs ≤ 2 = h.room q in omega (arith, open_requests-later d t rs);
    }

pub can-sooner : (d last : ℕ) (rs : List TimedNeed) (n : Need) (t : ℕ) → n.not_before ≡ 0 → CanIssue (last + d) (later_by d rs) n (t + d) → CanIssue last rs n t
can-sooner d last rs n t z h =
    let a : last + d ≤ t + d = h.in_order in
    record {
      in_order = omega arith;
      waited = omega arith;
      each = each-sooner d n t rs h.each;
      room = λ q. let few : open_requests (t + d) (later_by d rs) ≤ 2 = h.room q in omega (arith, open_requests-later d t rs);
    }

pub later-issues : (d last : ℕ) (rs : List TimedNeed) (n : Need) (t : ℕ) → n.not_before ≡ 0 → IssuesAt last rs n t → IssuesAt (last + d) (later_by d rs) n (t + d)
later-issues d last rs n t z h =
    record {
      can = later-can d last rs n t h.can;
      least = λ v k.
          let le : last + d ≤ v = k.in_order in
          let e : v ≡ (v - d) + d = omega arith in
          let u : t ≤ v - d = h.least (v - d) (can-sooner d last rs n (v - d) z (subst (λ m. CanIssue (last + d) (later_by d rs) n m) e k)) in
          omega arith;
    }

pub last_request-later : (d t : ℕ) (rs : List TimedNeed) → max (t + d) (last_request (later_by d rs)) ≡ max t (last_request rs) + d
last_request-later d t [] = omega arith
last_request-later d t (r ∷ rs) = grind (arith, nat_tests, last_request-later d t rs)

pub done_turn-later : (d t : ℕ) (rs : List TimedNeed) (n : Need) → done_turn (later_by d rs) n (t + d) ≡ done_turn rs n t + d
done_turn-later d t rs n = grind (arith, nat_tests, last_request-later)

pub last_from-later : (d base : ℕ) (rs : List TimedNeed) → last_from (base + d) (later_by d rs) ≡ last_from base rs + d
last_from-later d base rs = grind arith

pub later-timed : (d base : ℕ) (rs : List TimedNeed) → WaitForNone rs → IsTimedFrom base rs → IsTimedFrom (base + d) (later_by d rs)
later-timed d base [] z h = tt
later-timed d base (r ∷ rs) z h = (
  record {
    issue = subst (λ l. IssuesAt l (later_by d rs) r.need (r.issue + d)) (sym (last_from-later d base rs)) (later-issues d (last_from base rs) rs r.need r.issue z.0 h.0.issue);
    done = ap (λ m. m + d) h.0.done ∙ sym (done_turn-later d r.issue rs r.need);
  },
  later-timed d base rs z.1 h.1,
)

-- ---- one list of turns from each base

pub from-unique : (base : ℕ) (xs ys : List TimedNeed) → map (λ r. r.need) xs ≡ map (λ r. r.need) ys → IsTimedFrom base xs → IsTimedFrom base ys → xs ≡ ys
from-unique base [] [] e h k = refl
from-unique base (x ∷ xs) (y ∷ ys) e h k =
    let need : x.need ≡ y.need = cc in
    let needs : map (λ r. r.need) xs ≡ map (λ r. r.need) ys = cc in
    let rest : xs ≡ ys = from-unique base xs ys needs h.1 k.1 in
    let kk : FollowsFrom base xs y = rw rest k.0 in
    let issue : x.issue ≡ y.issue = issues-once (last_from base xs) xs x.need x.issue y.issue h.0.issue (rw need kk.issue) in
    let done : x.done ≡ y.done = h.0.done ∙ ap (λ n. done_turn xs n x.issue) need ∙ ap (λ t. done_turn xs y.need t) issue ∙ sym kk.done in
    λ i. record { need = need i; issue = issue i; done = done i } ∷ rest i
from-unique base _ _ e h k = absurd cc

pub needs-later : (d : ℕ) (rs : List TimedNeed) → map (λ r. r.need) (later_by d rs) ≡ map (λ r. r.need) rs
needs-later d [] = refl
needs-later d (r ∷ rs) = cc (needs-later d rs)

abbrev pub NeedsWaitForNone : List Need → Type 0
NeedsWaitForNone ns = AllByRecursion (λ n. n.not_before ≡ 0) ns

pub wait-needs : (rs : List TimedNeed) → WaitForNone rs → NeedsWaitForNone (map (λ r. r.need) rs)
wait-needs [] h = tt
wait-needs (r ∷ rs) h = (h.0, wait-needs rs h.1)

pub needs-wait : (rs : List TimedNeed) → NeedsWaitForNone (map (λ r. r.need) rs) → WaitForNone rs
needs-wait [] h = tt
needs-wait (r ∷ rs) h = (h.0, needs-wait rs h.1)

-- the second law
pub between : (xs : List TimedNeed) (b : TimedNeed) (ys : List TimedNeed) → IsTrue b.need.barrier → IsTimed (xs ++ b ∷ ys) → TakesTurns (xs ++ b ∷ ys) → WaitForNone xs → xs ≡ later_by (b.done - 1) (timed (map (λ r. r.need) xs))
between xs b ys is h c z =
    let ns : List Need = map (λ r. r.need) xs in
    let d = b.done - 1 in
    let alone = timed ns in
    let wb : TakeTime (b ∷ ys) = each-back (λ r. r.issue < r.done) xs (b ∷ ys) (timed-take_time (xs ++ b ∷ ys) h c) in
    let time : b.issue < b.done = wb.0 in
    let base : 1 + d ≡ b.done = omega arith in
    let e : map (λ r. r.need) alone ≡ ns = needs-timed ns in
    let za : WaitForNone alone = needs-wait alone (subst NeedsWaitForNone (sym e) (wait-needs xs z)) in
    let shifted : IsTimedFrom b.done (later_by d alone) = subst (λ m. IsTimedFrom m (later_by d alone)) base (later-timed d 1 alone za (from-IsTimed alone (IsTimed-timed ns))) in
    from-unique b.done xs (later_by d alone) (sym (needs-later d alone ∙ e)) (timed-after xs b ys is h c) shifted

pub between-overtakes : (xs : List TimedNeed) (b : TimedNeed) (ys : List TimedNeed) → IsTrue b.need.barrier → IsTimed (xs ++ b ∷ ys) → TakesTurns (xs ++ b ∷ ys) → WaitForNone xs → overtakes xs ≡ overtakes (timed (map (λ r. r.need) xs))
between-overtakes xs b ys is h c z = grind (arith, between, ltb-later)
