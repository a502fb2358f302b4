-- What barriers cost decides no overtaking.
use Rattle.std.proofs.Common.{◌≡◌, true, List, [], ◌∷◌, ◌++◌, sym, refl, ap, ◌∙◌, subst, inl, inr, arith}
use Rattle.std.specs.Prelude.{IsTrue, map}
use Rattle.std.specs.List.{AllZip}
use Rattle.std.proofs.lemmas.Bool.{cases_Bool}
use Rattle.i9_model.specs.declared.need.Need.{Need}
use Rattle.i9_model.specs.declared.need.TimedNeed.{TimedNeed}
use Rattle.i9_model.specs.Turns.{IsTimed, TakesTurns, WaitForNone, timed, issue_turn, last_issue, done_turn, overtakes, IsAlike, HaveCosts}
use Rattle.i9_turns.proofs.TurnWhole.{IsTimed-timed, needs-timed}
use Rattle.i9_turns.proofs.TurnBetween.{between-overtakes, NeedsWaitForNone, needs-wait}

pub costs-takes : (rs : List TimedNeed) → HaveCosts (map (λ r. r.need) rs) → TakesTurns rs
costs-takes [] h = tt
costs-takes (r ∷ rs) h = (h.0, costs-takes rs h.1)

-- the turns of a list end with those of its end
pub record Splits (front back : List Need) : Type 0 where
  pub rs : List TimedNeed
  pub is : timed (front ++ back) ≡ rs ++ timed back
  pub needs : map (λ r. r.need) rs ≡ front

pub splits : (front back : List Need) → Splits front back
splits [] back = record { rs = []; is = refl; needs = refl }
splits (n ∷ front) back =
    let s = splits front back in
    let all = timed (front ++ back) in
    let t = issue_turn (last_issue all) all n in
    record {
      rs = record { need = n; issue = t; done = done_turn all n t } ∷ s.rs;
      is = ap (λ xs. record { need = n; issue = t; done = done_turn all n t } ∷ xs) s.is;
      needs = ap (λ ns. n ∷ ns) s.needs;
    }

-- a barrier overtakes nothing and is not overtaken
pub overtakes-barrier : (xs : List TimedNeed) (b : TimedNeed) (ys : List TimedNeed) → IsTrue b.need.barrier → IsTimed (xs ++ b ∷ ys) → overtakes (xs ++ b ∷ ys) ≡ overtakes xs
overtakes-barrier xs b ys is h = grind arith

-- the overtaking after a barrier is that of what follows it
pub overtakes-front : (front : List Need) (b : Need) (back : List Need) → b.barrier ≡ true → HaveCosts (front ++ b ∷ back) → NeedsWaitForNone front → overtakes (timed (front ++ b ∷ back)) ≡ overtakes (timed front)
overtakes-front front b back is c w =
    let s = splits front (b ∷ back) in
    let ys = timed back in
    let t = issue_turn (last_issue ys) ys b in
    let r : TimedNeed = record { need = b; issue = t; done = done_turn ys b t } in
    let all : List TimedNeed = s.rs ++ r ∷ ys in
    let e : timed (front ++ b ∷ back) ≡ all = s.is in
    let h : IsTimed all = subst IsTimed e (IsTimed-timed (front ++ b ∷ back)) in
    let needs : map (λ r. r.need) all ≡ front ++ b ∷ back = ap (map (λ r. r.need)) (sym e) ∙ needs-timed (front ++ b ∷ back) in
    let takes : TakesTurns all = costs-takes all (subst HaveCosts (sym needs) c) in
    let wait : WaitForNone s.rs = needs-wait s.rs (subst NeedsWaitForNone (sym s.needs) w) in
    ap overtakes e ∙ overtakes-barrier s.rs r ys is h ∙ between-overtakes s.rs r ys is h takes wait ∙ ap (λ ns. overtakes (timed ns)) s.needs

-- two lists that are alike have the same needs up to the newest barriers
pub data Parts : List Need → List Need → Type 0 where
  Same : (ns : List Need) → Parts ns ns
  Apart : (front : List Need) (b c : Need) (back other : List Need) → b.barrier ≡ true → c.barrier ≡ true → NeedsWaitForNone front → Parts (front ++ b ∷ back) (front ++ c ∷ other)

pub onto : (n : Need) (ns ms : List Need) → n.not_before ≡ 0 → Parts ns ms → Parts (n ∷ ns) (n ∷ ms)
onto n ns ms z (Same ks) = Same (n ∷ ks)
onto n ns ms z (Apart front b c back other x y w) = Apart (n ∷ front) b c back other x y (z, w)

pub parts : (ns ms : List Need) → AllZip IsAlike ns ms → Parts ns ms
parts [] [] h = Same []
parts (n ∷ ns) (m ∷ ms) h =
    elim (cases_Bool n.barrier) [
      | inl is ↦ Apart [] n m ns ms is (sym h.0.barrier ∙ is) tt
      | inr not ↦ rw (← h.0.same not) (onto n ns ms (h.0.wait not) (parts ns ms h.1))
    ]
parts _ _ h = absurd h

pub parts-overtakes : (ns ms : List Need) → HaveCosts ns → HaveCosts ms → Parts ns ms → overtakes (timed ns) ≡ overtakes (timed ms)
parts-overtakes ns ms c d h = grind (arith, overtakes-front)

pub alike-overtakes : (ns ms : List Need) → HaveCosts ns → HaveCosts ms → AllZip IsAlike ns ms → overtakes (timed ns) ≡ overtakes (timed ms)
alike-overtakes ns ms c d h = parts-overtakes ns ms c d (parts ns ms h)
