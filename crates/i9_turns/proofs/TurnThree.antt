-- At most three records issue in one turn.
use Rattle.std.proofs.Common.{◌≡◌, ℕ, ◌+◌, ◌≤◌, Bool, true, false, ◌&&◌, List, [], ◌∷◌, refl, subst, inl, inr, arith}
use Rattle.std.specs.Prelude.{nat_eq}
use Rattle.std.specs.List.{AllByRecursion, count_by}
use Rattle.std.proofs.lemmas.Bool.{cases_Bool, cond-true, cond-false, eqb-true, or_left, and_parts, false_from_ne_true}
use Rattle.std.proofs.lemmas.List.Sums.{sum_by-cons}
use Rattle.i9_isa.specs.declared.inst.Side.{Side}
use Rattle.i9_isa.specs.declared.inst.Side.TheVariants.{Reg, Mem, Ctl}
use Rattle.i9_model.specs.declared.need.Need.{Need}
use Rattle.i9_model.specs.declared.need.TimedNeed.{TimedNeed}
use Rattle.i9_model.specs.Turns.{Permits, IsTimed, same_side, issues_at}
use Rattle.i9_turns.proofs.TurnComputed.{one_if}

abbrev pub at_side : Side → ℕ → TimedNeed → Bool
at_side side t r = same_side side r.need.side && nat_eq r.issue t

pub same_side-join : (s a b : Side) → same_side s a ≡ true → same_side s b ≡ true → same_side a b ≡ true
same_side-join s a b h k = grind arith

pub one-true : (b : Bool) → b ≡ true → one_if b ≡ 1
one-true b h = cond-true b 1 0 h

pub one-false : (b : Bool) → b ≡ false → one_if b ≡ 0
one-false b h = cond-false b 1 0 h

-- where a record of a side may issue at t, no earlier one of that side has issued at t
pub none-at : (side : Side) (t : ℕ) (n : Need) (rs : List TimedNeed) → same_side side n.side ≡ true → AllByRecursion (Permits n t) rs → count_by (at_side side t) rs ≡ 0
none-at side t n [] same h = refl
none-at side t n (r ∷ rs) same h =
    let not_at : at_side side t r ≡ false =
    false_from_ne_true (at_side side t r) (λ at.
    let q = and_parts (same_side side r.need.side) (nat_eq r.issue t) at in
    h.0.side (or_left (same_side r.need.side n.side) (same_side r.need.side Ctl) (same_side-join side r.need.side n.side q.0 same)) (eqb-true r.issue t q.1)) in
    omega (arith, sum_by-cons (λ x. one_if (at_side side t x)) r rs, one-false (at_side side t r) not_at, none-at side t n rs same h.1)

pub one-at : (side : Side) (t : ℕ) (rs : List TimedNeed) → IsTimed rs → count_by (at_side side t) rs ≤ 1
one-at side t [] h = omega arith
one-at side t (r ∷ rs) h =
    let e : count_by (at_side side t) (r ∷ rs) ≡ one_if (at_side side t r) + count_by (at_side side t) rs = sum_by-cons (λ x. one_if (at_side side t x)) r rs in
    elim (cases_Bool (at_side side t r)) [
      | inr not ↦ omega (arith, e, one-false (at_side side t r) not, one-at side t rs h.1)
      | inl at ↦
          let q = and_parts (same_side side r.need.side) (nat_eq r.issue t) at in
          let P : ℕ → Type 0 = λ u. AllByRecursion (Permits r.need u) rs in
          let each = subst P (eqb-true r.issue t q.1) h.0.issue.can.each in
          omega (arith, e, one-true (at_side side t r) at, none-at side t r.need rs q.0 each)
    ]

pub some-side : (s : Side) (b : Bool) → one_if b ≤ one_if (same_side Reg s && b) + one_if (same_side Mem s && b) + one_if (same_side Ctl s && b)
some-side s b = grind arith

pub by-sides : (t : ℕ) (rs : List TimedNeed) → issues_at t rs ≤ count_by (at_side Reg t) rs + count_by (at_side Mem t) rs + count_by (at_side Ctl t) rs
by-sides t [] = omega arith
by-sides t (r ∷ rs) =
    let cons : (p : TimedNeed → Bool) → count_by p (r ∷ rs) ≡ one_if (p r) + count_by p rs = λ p. sum_by-cons (λ x. one_if (p x)) r rs in
    omega (arith, by-sides t rs, some-side r.need.side (nat_eq r.issue t), cons (λ x. nat_eq x.issue t), cons (at_side Reg t), cons (at_side Mem t), cons (at_side Ctl t))

pub at_most_three : (t : ℕ) (rs : List TimedNeed) → IsTimed rs → issues_at t rs ≤ 3
at_most_three t rs h = omega (arith, by-sides t rs, one-at Reg t rs h, one-at Mem t rs h, one-at Ctl t rs h)
