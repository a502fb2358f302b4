-- The greatest vector of a priority that software asks for is the highest bit of the priority's byte.
use Rattle.std.proofs.Common.{◌≡◌, ℕ, ◌+◌, ◌-◌, ◌*◌, ◌%◌, ◌^◌, suc, ◌<◌, ◌≤◌, Bool, true, false, ap, ◌∙◌, arith}
use Rattle.std.specs.Prelude.{◌&&◌, ◌==◌}
use Rattle.std.proofs.lemmas.Nat.Bits.{bit_at_above}
use Rattle.i9_isa.specs.Words.{bit}
use Rattle.i9_model.specs.Memory.{Memory}
use Rattle.i9_model.specs.Interrupts.{is_requested, priority_place, pending_place}
use Rattle.i9_ints.specs.Best.{is_let_in, is_wanted, IsTop}

-- a byte has no bit above its highest
above_top : (b r k : ℕ) → b < 2 * 2 ^ r → r < k → bit b k ≡ false
above_top b r k high more =
    let less : b < 2 ^ suc r = omega arith in
    ap (λ (n : ℕ). n == 1) (bit_at_above b (suc r) k less (omega arith))

at_top : (b r : ℕ) → 2 ^ r ≤ b → b < 2 * 2 ^ r → bit b r ≡ true
at_top b r low high = grind arith

module _ (m : Memory) (table pc p : ℕ) where
  -- the byte of the priority's bit, and the byte of its vectors
  abbrev pub priorities : ℕ
  priorities = m.bytes (priority_place table (8 * p))

  abbrev pub vectors : ℕ
  vectors = m.bytes (pending_place table (8 * p))

  requested_is : (v : ℕ) → 8 * p ≤ v → v < 8 * p + 8 → is_requested m table v ≡ (bit priorities (p % 8) && bit vectors (v - 8 * p))
  requested_is v low high = grind arith

  let_in_is : (v : ℕ) → 8 * p ≤ v → v < 8 * p + 8 → is_let_in pc v ≡ is_let_in pc (8 * p)
  let_in_is v low high = grind arith

  wanted_is : (v : ℕ) → 8 * p ≤ v → v < 8 * p + 8 → is_wanted (is_requested m table) pc v ≡ ((bit priorities (p % 8) && bit vectors (v - 8 * p)) && is_let_in pc (8 * p))
  wanted_is v low high =
      ap (λ (b : Bool). b && is_let_in pc v) (requested_is v low high)
      ∙ ap (λ (b : Bool). (bit priorities (p % 8) && bit vectors (v - 8 * p)) && b) (let_in_is v low high)

  pub top_wanted : (r : ℕ) → r < 8 → 2 ^ r ≤ vectors → vectors < 2 * 2 ^ r → bit priorities (p % 8) ≡ true → is_let_in pc (8 * p) ≡ true → IsTop (is_wanted (is_requested m table) pc) (8 * p) (8 * p + 8) (8 * p + r)
  top_wanted r few low high asked let_in = record {
    from = omega arith;
    below = omega arith;
    passes =
        let at : 8 * p + r - 8 * p ≡ r = omega arith in
        let set : bit vectors (8 * p + r - 8 * p) ≡ true = ap (bit vectors) at ∙ at_top vectors r low high in
        wanted_is (8 * p + r) (omega arith) (omega arith) ∙ grind arith;
    none_greater = λ u more less.
        let none : bit vectors (u - 8 * p) ≡ false = above_top vectors r (u - 8 * p) high (omega arith) in
        wanted_is u (omega arith) less ∙ grind arith;
  }
