-- A word has no bit from 32 on.
use Rattle.std.proofs.Common.{◌≡◌, ℕ, ◌-◌, ◌^◌, ◌≤◌, ap, ◌∙◌, inl, inr, arith}
use Rattle.std.specs.Prelude.{bit_and}
use Rattle.std.proofs.lemmas.Bool.{cases_lt}
use Rattle.std.proofs.lemmas.Nat.{and_le_r, pow_below}
use Rattle.i9_model.specs.Interrupts.{without_bit}

past_words : (k : ℕ) → 32 ≤ k → 2 ^ 32 - 1 - 2 ^ k ≡ 0
past_words k h = elim (cases_lt 32 k) [
  | inl l ↦ let more = pow_below 32 k l in omega arith
  | inr g ↦ let same : k ≡ 32 = omega arith in ap (λ (j : ℕ). 2 ^ 32 - 1 - 2 ^ j) same
]

pub without_bit_past : (w k : ℕ) → 32 ≤ k → without_bit w k ≡ 0
without_bit_past w k h =
    let none : bit_and w 0 ≡ 0 = omega (arith, and_le_r w 0) in
    ap (bit_and w) (past_words k h) ∙ none
