use Rattle.std.proofs.Common.{List, ◌≡◌, ℕ, ◌+◌, ◌<◌, ◌≤◌, ◌^◌, max, cond, ◌∷◌, length, take, reverse, set, subst, sym, ap, ◌∙◌, arith, length-set}
use Rattle.i9_model.specs.declared.need.TimedNeed.{TimedNeed}
use Rattle.i9_model.specs.Turns.{Pending, StandsFor, IsAllDone, FollowsOpen, IssuesAt, last_request, done_turn, done_from, open_at, pending_after, with_need}
use Rattle.i9_turns.proofs.TurnStands.{stands-next, stands-with_need, stands-issue_turn}
use Rattle.i9_turns.proofs.TurnOpen.{done-after}
use Rattle.i9_issue.specs.Room.{Fits, IsEarly, Holds}
use Rattle.i9_issue.proofs.Loops.{issues-early, last_request-early, request-turn, request-next, until-next, placed-list, kept-length, place-fits, place-bound}
use Rattle.i9_issue.proofs.Seven.{placed_at, at_most_seven}
use Rattle.i9_issue.proofs.Early.{held-done}
use Rattle.i9_issue.proofs.board.Board.place_at.Goals as goal
use Rattle.i9_issue.proofs.board.Board.place_at.Goals.{After-keep_open-kept}

-- ---- what is known before the record is written

-- what is open before, by the fields
abbrev before : After-keep_open-kept → Pending
before c = record { last = c.self.inside.last; records = reverse (take c.self.inside.count c.self.inside.records) }

-- the record that is placed
abbrev placed : After-keep_open-kept → TimedNeed
placed c = placed_at c.args.n.now c.args.issue c.done_turn-done.result

-- and the records that are then open
abbrev open_after : After-keep_open-kept → List TimedNeed
open_after c = placed c ∷ open_at c.args.issue (before c).records

abbrev places_after : After-keep_open-kept → List TimedNeed
places_after c = set c.keep_open-kept.new.records c.keep_open-kept.result (placed c)

issues : (c : After-keep_open-kept) → IssuesAt (before c).last (before c).records c.args.n.now c.args.issue
issues c = subst (λ (p : Pending). IssuesAt p.last p.records c.args.n.now c.args.issue) (sym c.self.view_is) c.requires.issue

early : (c : After-keep_open-kept) → IsEarly (before c) c.args.n.now
early c = subst (λ (p : Pending). IsEarly p c.args.n.now) (sym c.self.view_is) c.requires.early

done_is : (c : After-keep_open-kept) → c.done_turn-done.result ≡ done_turn (before c).records c.args.n.now c.args.issue
done_is c = grind (arith, request-turn, issues)

fits_after : (c : After-keep_open-kept) → Fits c.args.issue (open_after c)
fits_after c = place-fits (before c) c.args.n.now c.args.issue c.done_turn-done.result c.self.invariant.fits c.requires.cost (issues c) (done_is c)

whole : (c : After-keep_open-kept) → length c.keep_open-kept.new.records ≡ 7
whole c = c.keep_open-kept.ensures.whole

has_room : (c : After-keep_open-kept) → c.keep_open-kept.result < 7
has_room c =
    let few = at_most_seven c.args.issue (open_after c) (fits_after c) in
    let fit : c.keep_open-kept.result ≤ length c.keep_open-kept.new.records = omega (arith, whole c, c.keep_open-kept.ensures.few, c.self.invariant.few) in
    omega (arith, few, kept-length c.args.issue c.self.inside.count c.keep_open-kept.result c.keep_open-kept.new.records c.self.inside.records fit c.keep_open-kept.ensures.kept)

list_after : (c : After-keep_open-kept) → reverse (take (c.keep_open-kept.result + 1) (places_after c)) ≡ open_after c
list_after c = placed-list c.args.issue c.self.inside.count c.keep_open-kept.result c.keep_open-kept.new.records c.self.inside.records (placed c) (omega (arith, whole c, has_room c)) c.keep_open-kept.ensures.kept

-- what is open afterwards, by the places
abbrev open_by : After-keep_open-kept → List TimedNeed → Pending
open_by c xs = record { last = c.args.issue; records = reverse (take (c.keep_open-kept.result + 1) xs) }

abbrev after : After-keep_open-kept → Pending
after c = open_by c (places_after c)

after_is : (c : After-keep_open-kept) → after c ≡ pending_after c.args.self.now (placed c)
after_is c = ap (λ (xs : List TimedNeed). record { last = c.args.issue; records = xs }) (list_after c) ∙ ap (λ (p : Pending). pending_after p (placed c)) c.self.view_is

follows : (c : After-keep_open-kept) → FollowsOpen c.args.self.now (placed c)
follows c = subst (λ (p : Pending). FollowsOpen p (placed c)) c.self.view_is (record { issue = issues c; done = done_is c })

stands_after : (c : After-keep_open-kept) (rs : List TimedNeed) → StandsFor c.args.self.now rs → StandsFor (after c) (placed c ∷ rs)
stands_after c rs s = subst (λ (p : Pending). StandsFor p (placed c ∷ rs)) (sym (after_is c)) (stands-next c.args.self.now rs (placed c) s (follows c) c.requires.cost.some)

holds_after : (c : After-keep_open-kept) (until asked : ℕ) → until ≡ max c.self.inside.until c.done_turn-done.result → asked ≡ cond c.args.n.now.request c.done_turn-done.result c.self.inside.asked
    → Holds c.args.issue until asked (c.keep_open-kept.result + 1) (places_after c)
holds_after c until asked later requested =
    let t = c.args.issue in
    let old = (before c).records in
    let new : List TimedNeed → Type 0 = λ xs. (Fits t xs) × (until ≡ done_from t xs) × (max t asked ≡ max t (last_request xs)) in
    let order = (issues c).can.in_order in
    let held = c.self.invariant in
    let lt : t < c.done_turn-done.result = subst (λ (d : ℕ). t < d) (sym (done_is c)) (done-after old c.args.n.now t c.requires.cost.some) in
    let all = subst new (sym (list_after c)) (
      fits_after c,
      later ∙ until-next c.self.inside.last c.self.inside.until t old (placed c) held.end order lt,
      ap (max t) requested ∙ request-next c.self.inside.last t c.self.inside.asked old (placed c) order held.request held.fits.in_order,
    ) in
    record {
      few = omega (arith, has_room c);
      whole = length-set c.keep_open-kept.new.records c.keep_open-kept.result (placed c) ∙ whole c;
      fits = all.0;
      end = all.1;
      request = all.2;
    }

-- ---- the answers

pub done_turn-done-requires-clause-turn : goal.done_turn-done-requires-clause-turn
done_turn-done-requires-clause-turn c =
    let fits = subst (λ (p : Pending). Fits p.last p.records) c.self.view_is c.self.invariant.fits in
    issues-early c.args.self.now c.args.n.now c.args.issue fits c.requires.early c.requires.issue

pub done_turn-done-requires-clause-before : goal.done_turn-done-requires-clause-before
done_turn-done-requires-clause-before c =
    let is_early = subst (λ (p : Pending). IsEarly p c.args.n.now) (sym c.self.view_is) c.requires.early in
    let one : c.self.inside.last < 2 ^ 62 = is_early.last in
    let other : last_request (reverse (take c.self.inside.count c.self.inside.records)) < 2 ^ 62 = last_request-early (2 ^ 62) (reverse (take c.self.inside.count c.self.inside.records)) (omega arith) is_early.done in
    omega (arith, one, other, c.self.invariant.request)

pub keep_open-kept-requires-clause-done : goal.keep_open-kept-requires-clause-done
keep_open-kept-requires-clause-done c = held-done c.self.inside.last c.self.inside.until c.self.inside.asked c.self.inside.count c.self.inside.records c.self.invariant

pub put-requires : goal.put-requires
put-requires c = has_room (goal.at.put-requires c).After-keep_open-kept

pub invariant_of-self : goal.invariant_of-self
invariant_of-self c =
    let p = (goal.at.invariant_of-self c).After-keep_open-kept in
    let written : c.put.new.records ≡ places_after p = c.put.ensures in
    let until = c.max-self-inside.result in
    let asked = c.asked_until-self-inside.result in
    subst (λ (xs : List TimedNeed). Holds c.args.issue until asked (p.keep_open-kept.result + 1) xs) (sym written) (holds_after p until asked c.max-self-inside.ensures c.asked_until-self-inside.ensures)

pub returns-clause-after : goal.returns-clause-after
returns-clause-after c = grind (arith, after_is)

pub returns-clause-of_all : goal.returns-clause-of_all
returns-clause-of_all c rs s =
    let p = (goal.at.returns-clause-of_all c).After-keep_open-kept in
    let written : c.put.new.records ≡ places_after p = c.put.ensures in
    subst (λ (xs : List TimedNeed). StandsFor (open_by p xs) (placed p ∷ rs)) (sym written) (stands_after p rs s)

pub returns-clause-computed : goal.returns-clause-computed
returns-clause-computed c rs s =
    let p = (goal.at.returns-clause-computed c).After-keep_open-kept in
    let written : c.put.new.records ≡ places_after p = c.put.ensures in
    let whole = stands-with_need c.args.self.now rs (placed p) s (follows p) in
    let stands = subst (λ (xs : List TimedNeed). StandsFor (after p) xs) whole (stands_after p rs s) in
    (subst (λ (xs : List TimedNeed). StandsFor (open_by p xs) (with_need rs c.args.n.now)) (sym written) stands, stands-issue_turn c.args.self.now rs c.args.n.now c.args.issue s c.requires.issue)

pub returns-clause-bound : goal.returns-clause-bound
returns-clause-bound c m a w =
    let p = (goal.at.returns-clause-bound c).After-keep_open-kept in
    let written : c.put.new.records ≡ places_after p = c.put.ensures in
    let fits = subst (λ (p : Pending). Fits p.last p.records) c.self.view_is c.self.invariant.fits in
    let bound = place-bound c.args.self.now c.args.n.now c.args.issue c.done_turn-done.result m fits c.requires.issue (follows p).done a w in
    let all = subst (λ (q : Pending). IsAllDone q (m + c.args.n.now.cost)) (sym (after_is p)) bound in
    subst (λ (xs : List TimedNeed). IsAllDone (open_by p xs) (m + c.args.n.now.cost)) (sym written) all
