-- Valid instructions that do not depend on each other are apart, and a greedy order keeps those that do in theirs.
use Rattle.std.proofs.Common.{◌≡◌, ℕ, max, min, true, false, List, [], ◌∷◌, ◌++◌, sym, ap, ◌∙◌, subst, inl, inr, arith}
use Rattle.std.specs.Prelude.{bit_and, bit_or}
use Rattle.std.specs.Int.{bit_at, from_bool}
use Rattle.std.specs.List.{AllByRecursion, list_any}
use Rattle.std.proofs.lemmas.Bool.{cases_lt, or_parts, both_ways, eqb-true, not-false, not-true}
use Rattle.std.proofs.lemmas.Nat.Bits.{bit_at_and, bit_at_or, bit_at-zero}
use Rattle.i9_isa.specs.declared.inst.Inst.{Inst}
use Rattle.i9_isa.specs.Resources.{is_read, is_written}
use Rattle.i9_isa.specs.Valid.{IsValid}
use Rattle.i9_model.specs.Needs.{set_of}
use Rattle.i9_model.specs.Turns.{changes_value}
use Rattle.i9_model.proofs.SetLaws.{set_bits}
use Rattle.i9_turns.proofs.Outside.{not_in}
use Rattle.i9_need.proofs.Sets.{beyond_writes}
use Rattle.i9_tune.specs.Blocks.{is_allowed, Spares, AreApart}
use Rattle.i9_tune.specs.Orders.{IsOrder, AreAllowed}
use Rattle.i9_tune.specs.Greedy.{plain_need, depends, IsGreedy, AreTunable}
use Rattle.i9_tune.proofs.Orders.{parts_of}

-- where two sets have nothing in common, what is in one is in no part of the other
nothing_common : (x y z k : ℕ) → bit_and x (bit_or y z) ≡ 0 → bit_at x k ≡ 1 → (bit_at y k ≡ 0) × (bit_at z k ≡ 0)
nothing_common x y z k none one =
    let e : min (bit_at x k) (max (bit_at y k) (bit_at z k)) ≡ 0 =
    sym (bit_at_and x (bit_or y z) k ∙ ap (min (bit_at x k)) (bit_at_or y z k)) ∙ ap (λ (n : ℕ). bit_at n k) none ∙ bit_at-zero k in
    (omega (arith, e, one), omega (arith, e, one))

spares : (i j : Inst) → IsValid i → changes_value (plain_need i) (plain_need j) ≡ false → Spares i j
spares i j valid h k w = elim (cases_lt k 33) [
  | inr high ↦ absurd (both_ways (is_written i k) (beyond_writes i valid k high) w)
  | inl low ↦
      let one = set_bits 33 k (is_written i) low ∙ ap from_bool w in
      let none = nothing_common (set_of (is_written i)) (set_of (is_read j)) (set_of (is_written j)) k (eqb-true _ 0 (not-false _ h)) one in
      (not_in (is_read j) k low none.0, not_in (is_written j) k low none.1)
]

pub apart : (i j : Inst) → IsValid i → IsValid j → depends i j ≡ false → AreApart i j
apart i j v w h =
    let p = or_parts _ _ h in
    let q = or_parts _ _ p.0 in
    let both = p.1 in
    record { first = spares i j v q.0; second = spares j i w q.1; requests = grind arith }

-- ---- a greedy order is one

abbrev pub IsTunable : Inst → Type 0
IsTunable i = IsValid i × (is_allowed i ≡ true)

all_apart : (before : List Inst) (x : Inst) → AreTunable before → IsValid x → list_any (λ (e : Inst). depends e x) before ≡ false → AllByRecursion (λ i. AreApart i x) before
all_apart [] x ok valid h = tt
all_apart (i ∷ before) x ok valid h =
    let p = or_parts _ _ h in
    (apart i x ok.0.0 valid p.0, all_apart before x ok.1 valid p.1)

pub greedy_order : (taken left order : List Inst) → AreTunable left → IsGreedy taken left order → IsOrder left order
greedy_order taken left [] ok greedy = greedy
greedy_order taken left (x ∷ order) ok greedy =
    let parts = parts_of IsTunable greedy.0 x greedy.1 (subst AreTunable greedy.2 ok) in (
      greedy.0,
      greedy.1,
      greedy.2,
      all_apart greedy.0 x parts.0 parts.1.0 (not-true _ greedy.3.free),
      greedy_order (x ∷ taken) (greedy.0 ++ greedy.1) order parts.2 greedy.4,
    )

pub all_allowed : (block : List Inst) → AreTunable block → AreAllowed block
all_allowed [] ok = tt
all_allowed (i ∷ block) ok = (ok.0.1, all_allowed block ok.1)

pub tunable_push : (block : List Inst) (i : Inst) → AreTunable block → IsValid i → is_allowed i ≡ true → AreTunable (block ++ i ∷ [])
tunable_push [] i ok v a = ((v, a), tt)
tunable_push (j ∷ block) i ok v a = (ok.0, tunable_push block i ok.1 v a)
