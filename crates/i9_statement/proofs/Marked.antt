-- Ignored bits that are set in the word of an instruction.
use Rattle.std.proofs.Common.{◌≡◌, ℕ, ◌<◌, ◌^◌, ap, arith}
use Rattle.std.specs.Int.{bit_at}
use Rattle.std.specs.Int.Bits.{bit_and, bit_or}
use Rattle.std.proofs.lemmas.Nat.Bits.{bit_at_and, bit_at_or, bit_at-lt, same_from_bits_below}
use Rattle.std.proofs.lemmas.Nat.{and_le_l}
use Rattle.i9_isa.specs.declared.inst.Inst.{Inst}
use Rattle.i9_isa.specs.Words.{Encodes}
use Rattle.i9_decode.specs.Ignored.{ignored_bits, HasNone}
use Rattle.i9_decode.proofs.IgnoredBits.{ignored_free}
use Rattle.i9_statement.specs.Codes.{IsCode}

-- outside of the ignored bits nothing is set
outside : (s w bits k : ℕ) → bit_and bits s ≡ bits → bit_at s k ≡ 0 → bit_at w k ≡ bit_at (bit_or w bits) k
outside s w bits k within out = omega (arith, bit_at_and bits s k, ap (λ n. bit_at n k) within, bit_at_or w bits k)

inside : (s w bits k : ℕ) → bit_and bits s ≡ bits → (bit_at s k ≡ 1 → bit_at w k ≡ 0) → bit_at (bit_and (bit_or w bits) s) k ≡ bit_at bits k
inside s w bits k within none = grind (arith, bit_at_and, bit_at_or, bit_at-lt)

pub marked : (i : Inst) (w w1 bits : ℕ) → Encodes w w1 i → HasNone (ignored_bits i) w → bits < 2 ^ 32 → bit_or w bits < 2 ^ 32 → bit_and bits (ignored_bits i) ≡ bits → IsCode i bits (bit_or w bits) w1
marked i w w1 bits form clear small fits within =
    let s = ignored_bits i in
    record {
      form = ignored_free w (bit_or w bits) w1 i (λ k l out. outside s w bits k within out) form;
      spare = same_from_bits_below 32 (bit_and (bit_or w bits) s) bits (omega (arith, and_le_l (bit_or w bits) s)) small (λ k l. inside s w bits k within (λ here. clear k l here));
      small = fits;
    }
