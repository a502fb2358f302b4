-- Flags that are set change no other bit.
use Rattle.std.proofs.Common.{◌≡◌, ℕ, ◌^◌, Bool, true, false, cond, List, [], ◌∷◌, refl, ap, arith, bit_or}
use Rattle.std.specs.Prelude.{◌≢◌, map, filter}
use Rattle.std.proofs.lemmas.Bool.Decides.{nat_tests}
use Rattle.std.proofs.lemmas.Nat.Bits.{bit_at_or, bit_at-lt, bit_at-pow_other}
use Rattle.i9_isa.specs.Words.{bit}
use Rattle.i9_model.specs.Tracing.{with_bits}
use Rattle.i9_events.specs.Tracing.{is_flag, GainsFlags}

kept_in : (w v k : ℕ) → bit w k ≡ true → bit (bit_or w v) k ≡ true
kept_in w v k set = grind (arith, bit_at_or, bit_at-lt, nat_tests)

-- no flag is another bit
apart : (j k : ℕ) → is_flag j ≡ true → is_flag k ≡ false → k ≢ j
apart j k flag other same = let p = ap is_flag same in cc

other_in : (w j k : ℕ) → k ≢ j → bit (bit_or w (2 ^ j)) k ≡ bit w k
other_in w j k apart = grind (arith, bit_or, bit_at_or, bit_at-pow_other)

gains_none : (w : ℕ) → GainsFlags w w
gains_none w = record { kept = λ k set. set; others = λ k other. refl }

gains_one : (w j : ℕ) → is_flag j ≡ true → GainsFlags w (bit_or w (2 ^ j))
gains_one w j flag = grind (arith, kept_in, other_in, apart)

pub gains_both : (w v u : ℕ) → GainsFlags w v → GainsFlags v u → GainsFlags w u
gains_both w v u one two = grind arith

module _ {X : Type 0} (place : X → ℕ) (flags : (x : X) → is_flag (place x) ≡ true) where
  -- the flags of the members that pass
  pub gains : (p : X → Bool) (w : ℕ) (xs : List X) → GainsFlags w (with_bits w (map place (filter p xs)))
  gains p w [] = gains_none w
  gains p w (x ∷ xs) = elim (p x) as (λ b. GainsFlags w (with_bits w (map place (cond b (x ∷ filter p xs) (filter p xs))))) [
    | true ↦
        let one = bit_or w (2 ^ place x) in
        gains_both w one (with_bits one (map place (filter p xs))) (gains_one w (place x) (flags x)) (gains p one xs)
    | false ↦ gains p w xs
  ]
