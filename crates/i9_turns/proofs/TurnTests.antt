-- What the tests on two needs say.
use Rattle.std.proofs.Common.{◌≡◌, ℕ, ◌+◌, ◌-◌, ◌%◌, ◌^◌, ◌<◌, ◌≤◌, true, false, ◌&&◌, eqb, Option, sym, ap, ◌∙◌, inl, inr, arith}
use Rattle.std.specs.Prelude.{nat_lt, bit_and, bit_or}
use Rattle.std.specs.Int.{bit_at}
use Rattle.std.proofs.lemmas.Bool.{cases_lt, ltb-true, eq-eqb, ne_eqb, or_cases, and_parts, not_from_false, not_from_true, false≢true}
use Rattle.std.proofs.lemmas.Nat.Bits.{bit_at_and, bit_at_or, bit_at-zero, same_from_bits, bit_at-lt}
use Rattle.i9_model.specs.declared.need.Need.{Need}
use Rattle.i9_model.specs.Turns.{ChangesValue, Overlaps, ChangesWords, changes_value, overlaps, changes_words, distance}
use Rattle.i9_model.proofs.SetLaws.{set-one, one-set}

pub changes_value-from : (e n : Need) → ChangesValue e n → changes_value e n ≡ true
changes_value-from e n h =
    let k = h.0 in
    let both = bit_or n.reads n.writes in
    let w : bit_at e.writes k ≡ 1 = set-one e.writes k h.1 in
    let v : bit_at both k ≡ 1 = elim h.2 [
      | inl r ↦ omega (arith, bit_at_or n.reads n.writes k, set-one n.reads k r, bit_at-lt n.writes k)
      | inr r ↦ omega (arith, bit_at_or n.reads n.writes k, set-one n.writes k r, bit_at-lt n.reads k)
    ] in
    not_from_false (eqb (bit_and e.writes both) 0)
    (ne_eqb (bit_and e.writes both) 0
    (λ z. let q : bit_at (bit_and e.writes both) k ≡ 0 = ap (λ m. bit_at m k) z ∙ bit_at-zero k in omega (arith, q, w, v, bit_at_and e.writes both k)))

pub changes_value-none : (e n : Need) → (ChangesValue e n → ⊥) → changes_value e n ≡ false
changes_value-none e n h =
    let both = bit_or n.reads n.writes in
    let at : (k : ℕ) → bit_at (bit_and e.writes both) k ≡ bit_at 0 k = λ k.
    elim (cases_lt 0 (bit_at (bit_and e.writes both) k)) [
      | inl some ↦
          let w : bit_at e.writes k ≡ 1 = omega (arith, bit_at_and e.writes both k, bit_at-lt e.writes k) in
          let v : 0 < bit_at both k = omega (arith, bit_at_and e.writes both k) in
          elim (cases_lt 0 (bit_at n.reads k)) [
            | inl r ↦ absurd (h (k, one-set e.writes k w, inl (one-set n.reads k (omega (arith, bit_at-lt n.reads k)))))
            | inr no_read ↦ absurd (h (k, one-set e.writes k w, inr (one-set n.writes k (omega (arith, bit_at_or n.reads n.writes k, bit_at-lt n.writes k)))))
          ]
      | inr none ↦ omega (arith, bit_at-zero k)
    ] in
    not_from_true (eqb (bit_and e.writes both) 0) (eq-eqb (bit_and e.writes both) 0 (same_from_bits (bit_and e.writes both) 0 at))

-- the first byte that both have is near to the other's first
pub distance-small : (x y i j : ℕ) → (x + i) % 2 ^ 32 ≡ (y + j) % 2 ^ 32 → i ≤ j → distance y x ≤ j - i
distance-small x y i j e le = omega arith

pub distance-back : (x y : ℕ) → (y + distance y x) % 2 ^ 32 ≡ x % 2 ^ 32
distance-back x y = omega arith

pub overlaps-from : (a b : ℕ × ℕ) → Overlaps a b → overlaps a b ≡ true
overlaps-from a b h = grind arith

pub overlaps-true : (a b : ℕ × ℕ) → overlaps a b ≡ true → Overlaps a b
overlaps-true a b h = elim (or_cases (nat_lt 0 a.1 && nat_lt (distance b.0 a.0) b.1) (nat_lt 0 b.1 && nat_lt (distance a.0 b.0) a.1) h) [
  | inl l ↦
      let p = and_parts (nat_lt 0 a.1) (nat_lt (distance b.0 a.0) b.1) l in
      (0, distance b.0 a.0, ltb-true 0 a.1 p.0, ltb-true (distance b.0 a.0) b.1 p.1, ap (λ m. m % 2 ^ 32) (let e : a.0 + 0 ≡ a.0 = omega arith in e) ∙ sym (distance-back a.0 b.0))
  | inr r ↦
      let p = and_parts (nat_lt 0 b.1) (nat_lt (distance a.0 b.0) a.1) r in
      (distance a.0 b.0, 0, ltb-true (distance a.0 b.0) a.1 p.1, ltb-true 0 b.1 p.0, distance-back b.0 a.0 ∙ ap (λ m. m % 2 ^ 32) (let e : b.0 ≡ b.0 + 0 = omega arith in e))
]

pub changes_words-from : (s : Option (ℕ × ℕ)) (code : ℕ × ℕ) → ChangesWords s code → changes_words s code ≡ true
changes_words-from s code h = grind arith

pub changes_words-true : (s : Option (ℕ × ℕ)) (code : ℕ × ℕ) → changes_words s code ≡ true → ChangesWords s code
changes_words-true s code h = grind (arith, false≢true, overlaps-true)
