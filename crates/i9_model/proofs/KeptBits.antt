-- Bits that are kept.
use Rattle.std.proofs.Common.{◌≡◌, ℕ, ◌/◌, ◌%◌, sym, ap, ◌∙◌, arith, bit_and, bit_or}
use Rattle.std.specs.Int.Bits.{and_self}
use Rattle.std.proofs.lemmas.Nat.{and_assoc, and_mod, and_mask, and_shr}
use Rattle.std.proofs.lemmas.Nat.Bits.{bit_at_and, bit_at_or, same_from_bits}
use Rattle.i9_model.specs.declared.layout.TheConstants.{PC_MASK}
use Rattle.i9_model.specs.Numbers.{IsWithin}

-- a masked word has no other bits
pub masked : (mask w : ℕ) → IsWithin mask (bit_and w mask)
masked mask w = and_assoc mask w mask ∙ ap (bit_and w) (and_self mask)

-- and a mask of a union is that of both
pub and_or : (a x t : ℕ) → bit_and (bit_or a x) t ≡ bit_or (bit_and a t) (bit_and x t)
and_or a x t = same_from_bits (bit_and (bit_or a x) t) (bit_or (bit_and a t) (bit_and x t)) (λ k.
    let p = bit_at_and (bit_or a x) t k in
    let q = bit_at_or a x k in
    let r = bit_at_or (bit_and a t) (bit_and x t) k in
    let s = bit_at_and a t k in
    let u = bit_at_and x t k in
    omega (arith, p, q, r, s, u))

-- the mask of the process controls has their low two bits
pub same_above : (w x : ℕ) → x / 4 ≡ w / 4 → IsWithin PC_MASK w → IsWithin PC_MASK x
same_above w x e h =
    let high : bit_and x PC_MASK / 4 ≡ x / 4 =
    and_shr x PC_MASK 2 ∙ ap (λ (n : ℕ). bit_and n (PC_MASK / 4)) e ∙ sym (and_shr w PC_MASK 2) ∙ ap (λ (n : ℕ). n / 4) h ∙ sym e in
    let low : bit_and x PC_MASK % 4 ≡ x % 4 = and_mod x PC_MASK 2 ∙ and_mask (x % 4) 2 ∙ omega arith in
    omega arith
