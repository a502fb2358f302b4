-- Sets as the bits of a number.
use Rattle.std.proofs.Common.{◌≡◌, ℕ, ◌+◌, ◌-◌, ◌*◌, ◌%◌, ◌^◌, ◌<◌, ◌≤◌, Bool, true, false, ◌&&◌, ◌||◌, leb, ltb, eqb, max, refl, ◌∙◌, arith, bit_or, inl, inr}
use Rattle.std.specs.Int.{bit_at, from_bool}
use Rattle.std.proofs.lemmas.Bool.{cases_lt, cases_eq, and_parts, leb-true}
use Rattle.std.proofs.lemmas.Bool.Decides.{nat_tests}
use Rattle.std.proofs.lemmas.Nat.{one_shl, pow-add, pow_pos, pow_below}
use Rattle.std.proofs.lemmas.Nat.Bits.{bit_at_mask_inside, bit_at_mask_below, bit_at_mask_above, bit_at-pow_same, bit_at-pow_other, bit_at_or}
use Rattle.i9_isa.specs.declared.op.Op.{Op}
use Rattle.i9_isa.specs.declared.op.Op.TheVariants.{Notbit}
use Rattle.i9_isa.specs.Operands.{words_read}
use Rattle.i9_isa.specs.Resources.{IsSetOf}
use Rattle.i9_isa.specs.Table.{row_of}

times_less_one : (x m y : ℕ) → x ≡ m + 1 → m * y ≡ y * x - y
times_less_one x m y e = rw e (omega arith)

-- a run of ones from bit r up
run : (r n : ℕ) → (2 ^ n - 1) * 2 ^ r ≡ 2 ^ (r + n) - 2 ^ r
run r n = let p : 1 ≤ 2 ^ n = pow_pos n in rw (pow-add 2 r n) (times_less_one (2 ^ n) (2 ^ n - 1) (2 ^ r) (omega arith))

run_bits : (r n k : ℕ) → bit_at (2 ^ (r + n) - 2 ^ r) k ≡ from_bool (leb r k && ltb k (r + n))
run_bits r n k = elim (cases_lt k r) [
  | inl below ↦ bit_at_mask_below r (r + n) k below ∙ grind (arith, nat_tests)
  | inr above ↦ elim (cases_lt k (r + n)) [
    | inl inside ↦ bit_at_mask_inside r (r + n) k above inside ∙ grind (arith, nat_tests)
    | inr past ↦ bit_at_mask_above r (r + n) k past ∙ grind (arith, nat_tests)
  ]
]

-- the same as it is shifted in 64 bits
pub group_bits : (r n k : ℕ) → n ≤ 16 → r ≤ 32 → bit_at ((1 * 2 ^ n % 18446744073709551616 - 1) * 2 ^ r % 18446744073709551616) k ≡ from_bool (leb r k && ltb k (r + n))
group_bits r n k hn hr =
    let small : 2 ^ (r + n) < 18446744073709551616 = pow_below (r + n) 64 (omega arith) in
    let whole : (2 ^ (r + n) - 2 ^ r) % 18446744073709551616 ≡ 2 ^ (r + n) - 2 ^ r = omega arith in
    rw (one_shl n 64 (omega arith), run r n, whole) (run_bits r n k)

pub one_bit : (r k : ℕ) → r ≤ 32 → bit_at (1 * 2 ^ r % 18446744073709551616) k ≡ from_bool (eqb k r)
one_bit r k h = rw (one_shl r 64 (omega arith)) (elim (cases_eq k r) [
  | inl e ↦ rw e (bit_at-pow_same r ∙ grind (arith, nat_tests))
  | inr ne ↦ bit_at-pow_other r k ne ∙ grind (arith, nat_tests)
])

or_bool : (a b : Bool) → max (from_bool a) (from_bool b) ≡ from_bool (a || b)
or_bool true true = refl
or_bool true false = refl
or_bool false true = refl
or_bool false false = refl

-- the union of two sets
pub or_set : (x y : ℕ) (p q : ℕ → Bool) → IsSetOf x p → IsSetOf y q → IsSetOf (bit_or x y) (λ k. p k || q k)
or_set x y p q hp hq = λ k. bit_at_or x y k ∙ rw (hp k, hq k) (or_bool (p k) (q k))

abbrev few : Op → Bool
few op = leb (words_read (row_of op).a) 4 && (leb (words_read (row_of op).b) 4 && leb (words_read (row_of op).c) 4)

few_words : (op : Op) → few op ≡ true
few_words Notbit = refl
few_words _ = refl

-- a name reads at most four words of src/dst
pub few_read : (op : Op) → words_read (row_of op).c ≤ 16
few_read op =
    let p = and_parts (leb (words_read (row_of op).a) 4) (leb (words_read (row_of op).b) 4 && leb (words_read (row_of op).c) 4) (few_words op) in
    let q = and_parts (leb (words_read (row_of op).b) 4) (leb (words_read (row_of op).c) 4) p.1 in
    let l = leb-true (words_read (row_of op).c) 4 q.1 in omega arith
