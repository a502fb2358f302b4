-- Words by their fields and by their bits.
use Rattle.std.proofs.Common.{◌≡◌, ℕ, suc, zero, ◌+◌, ◌-◌, ◌/◌, ◌%◌, ◌^◌, ◌<◌, ◌≤◌, Bool, true, false, not, ◌&&◌, ◌||◌, refl, sym, ap, ◌∙◌, arith, cond, ltb, leb, eqb, List, [], ◌∷◌, inl, inr}
use Rattle.std.specs.Int.{bit_at}
use Rattle.std.proofs.lemmas.Bool.{and_parts, ltb-true, leb-true, eqb-true, cases_eq, or_cases}
use Rattle.std.proofs.lemmas.Bool.Decides.{nat_tests}
use Rattle.std.proofs.lemmas.Nat.{field_of, shr-shr, pow_pos, mod_below}
use Rattle.std.proofs.Math.Pow.{mod-mod-pow}
use Rattle.std.proofs.lemmas.Nat.Bits.{same_from_bits_below, bit_at-zero, bit_at-lt}
use Rattle.i9_isa.specs.declared.inst.Mode.{Mode}
use Rattle.i9_isa.specs.declared.inst.Mode.TheVariants.{Offset}
use Rattle.i9_isa.specs.declared.format.Row.{Row}
use Rattle.i9_isa.specs.declared.format.Format.{Format}
use Rattle.i9_isa.specs.Words.{field, bit}
use Rattle.i9_decode.specs.Ignored.{Field, is_used, fields_of, reg_fields, cobr_fields, ctrl_fields, mem_fields, ignored_in, SameOutside, HasNone}

-- a field is the same in two words, where it counts
abbrev pub SameIf : Bool → ℕ → ℕ → ℕ → ℕ → Type 0
SameIf counts w v low width = counts ≡ true → field w low width ≡ field v low width

-- two words are the same at each field that counts, or at each that doesn't
abbrev SameBy : Bool → List Field → ℕ → ℕ → Type 0
SameBy c [] w v = Unit {0}
SameBy c (f ∷ fs) w v = (f.counts ≡ c → field w f.low f.width ≡ field v f.low f.width) × SameBy c fs w v

abbrev pub SameWhere : List Field → ℕ → ℕ → Type 0
SameWhere = SameBy true

-- a word is 0 at each field that doesn't count
abbrev pub ZeroElse : List Field → ℕ → Type 0
ZeroElse fs w = SameBy false fs w 0

-- ---- bits of fields

bit_of_field : (w low width i : ℕ) → i < width → bit_at (field w low width) i ≡ bit_at w (low + i)
bit_of_field w low width i h =
    let e : width ≡ (width - i - 1 + 1) + i = omega arith in
    ap (λ n. w / 2 ^ low % 2 ^ n / 2 ^ i % 2) e
    ∙ ap (λ n. n % 2) (field_of (w / 2 ^ low) (width - i - 1 + 1) i)
    ∙ mod-mod-pow (w / 2 ^ low / 2 ^ i) (width - i - 1) 1
    ∙ ap (λ n. n % 2) (shr-shr w low i)

abbrev has_bit : Field → ℕ → Bool
has_bit f k = leb f.low k && ltb k (f.low + f.width)

-- a bit of a word is one of the field in which it stands
bit_inside : (f : Field) (w k : ℕ) → has_bit f k ≡ true → bit_at w k ≡ bit_at (field w f.low f.width) (k - f.low)
bit_inside f w k h =
    let p = and_parts (leb f.low k) (ltb k (f.low + f.width)) h in
    let a = leb-true f.low k p.0 in
    let b = ltb-true k (f.low + f.width) p.1 in
    let i : k - f.low < f.width = omega arith in
    let e : f.low + (k - f.low) ≡ k = omega arith in
    ap (bit_at w) (sym e) ∙ sym (bit_of_field w f.low f.width (k - f.low) i)

field_same : (s w v low width : ℕ) → field s low width ≡ 0 → low + width ≤ 32 → SameOutside s w v → field w low width ≡ field v low width
field_same s w v low width z l same =
    same_from_bits_below width (field w low width) (field v low width) (mod_below _ _ (pow_pos width)) (mod_below _ _ (pow_pos width))
    (λ i h. bit_of_field w low width i h
    ∙ same (low + i) (omega arith) (sym (bit_of_field s low width i h) ∙ ap (λ n. bit_at n i) z ∙ bit_at-zero i)
    ∙ sym (bit_of_field v low width i h))

two_values : (a b : ℕ) → a < 2 → b < 2 → eqb a 1 ≡ eqb b 1 → a ≡ b
two_values a b ha hb h = grind (arith, nat_tests)

-- a bit as a field
pub bit_field : (w v k : ℕ) → bit w k ≡ bit v k → field w k 1 ≡ field v k 1
bit_field w v k h = two_values (field w k 1) (field v k 1) (bit_at-lt w k) (bit_at-lt v k) h

pub field_bit : (w v k : ℕ) → field w k 1 ≡ field v k 1 → bit w k ≡ bit v k
field_bit w v k h = ap (λ n. eqb n 1) h

pub bit_zero : (w k : ℕ) → bit w k ≡ false → field w k 1 ≡ 0
bit_zero w k h = two_values (field w k 1) 0 (bit_at-lt w k) (omega arith) h

-- ---- bits that the fields tell of

-- bit k stands in a field that counts, or in one that doesn't
abbrev is_in : Bool → ℕ → List Field → Bool
is_in counts k [] = false
is_in counts k (f ∷ fs) = (cond f.counts counts (not counts) && has_bit f k) || is_in counts k fs

-- no bit of s is in a field that counts, and the fields end at bit 31
abbrev free_of : ℕ → List Field → Bool
free_of s [] = true
free_of s (f ∷ fs) = cond f.counts (eqb (field s f.low f.width) 0) true && (leb (f.low + f.width) 32 && free_of s fs)

-- below n, a bit that s hasn't is in a field that counts, and a bit that s has is in one that doesn't
abbrev splits : ℕ → List Field → ℕ → Bool
splits s fs zero = true
splits s fs (suc k) = cond (eqb (bit_at s k) 0) (is_in true k fs) (is_in false k fs) && splits s fs k

-- the ignored bits are exactly those of the fields that don't count
abbrev pub is_exact : List Field → Bool
is_exact fs = free_of (ignored_in fs) fs && splits (ignored_in fs) fs 32

same_bit : (c : Bool) (w v k : ℕ) (fs : List Field) → is_in c k fs ≡ true → SameBy c fs w v → bit_at w k ≡ bit_at v k
same_bit c w v k [] h same = cc
same_bit c w v k (f ∷ fs) h same = elim (or_cases (cond f.counts c (not c) && has_bit f k) (is_in c k fs) h) [
  | inl here ↦
      let p = and_parts (cond f.counts c (not c)) (has_bit f k) here in
      bit_inside f w k p.1 ∙ ap (λ n. bit_at n (k - f.low)) (same.0 (counted f.counts c p.0)) ∙ sym (bit_inside f v k p.1)
  | inr there ↦ same_bit c w v k fs there same.1
]
  where
    counted : (b c : Bool) → cond b c (not c) ≡ true → b ≡ c
    counted true c h = sym h
    counted false true h = cc
    counted false false h = refl

split_at : (s : ℕ) (fs : List Field) (n k : ℕ) → splits s fs n ≡ true → k < n → cond (eqb (bit_at s k) 0) (is_in true k fs) (is_in false k fs) ≡ true
split_at s fs zero k h l = absurd (omega arith)
split_at s fs (suc n) k h l =
    let p = and_parts (cond (eqb (bit_at s n) 0) (is_in true n fs) (is_in false n fs)) (splits s fs n) h in
    elim (cases_eq k n) [
      | inl e ↦ rw e p.0
      | inr ne ↦ split_at s fs n k p.1 (omega arith)
    ]

-- the same outside of the ignored bits: the same at the fields that count
same_where : (s w v : ℕ) (fs : List Field) → free_of s fs ≡ true → SameOutside s w v → SameWhere fs w v
same_where s w v [] h same = tt
same_where s w v (f ∷ fs) h same =
    let p = and_parts (cond f.counts (eqb (field s f.low f.width) 0) true) _ h in
    let q = and_parts (leb (f.low + f.width) 32) (free_of s fs) p.1 in
    (λ t. field_same s w v f.low f.width (eqb-true _ 0 (rw t at p.0)) (leb-true _ _ q.0) same, same_where s w v fs q.1 same)

pub exact_where : (w v : ℕ) (fs : List Field) → is_exact fs ≡ true → SameOutside (ignored_in fs) w v → SameWhere fs w v
exact_where w v fs h same = same_where (ignored_in fs) w v fs (and_parts (free_of (ignored_in fs) fs) (splits (ignored_in fs) fs 32) h).0 same

-- and the other way round
pub exact_outside : (w v : ℕ) (fs : List Field) → is_exact fs ≡ true → SameWhere fs w v → SameOutside (ignored_in fs) w v
exact_outside w v fs h same = λ k l z. same_bit true w v k fs (rw z at (split_at (ignored_in fs) fs 32 k (and_parts (free_of (ignored_in fs) fs) (splits (ignored_in fs) fs 32) h).1 l)) same

-- 0 at the fields that don't count: none of the ignored bits
pub exact_none : (w : ℕ) (fs : List Field) → is_exact fs ≡ true → ZeroElse fs w → HasNone (ignored_in fs) w
exact_none w fs h zeros = λ k l o. same_bit false w 0 k fs (rw o at (split_at (ignored_in fs) fs 32 k (and_parts (free_of (ignored_in fs) fs) (splits (ignored_in fs) fs 32) h).1 l)) zeros ∙ bit_at-zero k

-- ---- each format's ignored bits are exactly those of the fields that don't count

exact_reg : (a b c : Bool) → is_exact (reg_fields a b c) ≡ true
exact_reg true true true = refl
exact_reg true true false = refl
exact_reg true false true = refl
exact_reg true false false = refl
exact_reg false true true = refl
exact_reg false true false = refl
exact_reg false false true = refl
exact_reg false false false = refl

exact_cobr : (b d h : Bool) → is_exact (cobr_fields b d h) ≡ true
exact_cobr true true true = refl
exact_cobr true true false = refl
exact_cobr true false true = refl
exact_cobr true false false = refl
exact_cobr false true true = refl
exact_cobr false true false = refl
exact_cobr false false true = refl
exact_cobr false false false = refl

exact_ctrl : (d h : Bool) → is_exact (ctrl_fields d h) ≡ true
exact_ctrl true true = refl
exact_ctrl true false = refl
exact_ctrl false true = refl
exact_ctrl false false = refl

exact_mem : (c : Bool) (m : Mode) → is_exact (mem_fields c m) ≡ true
exact_mem true Offset = refl
exact_mem true _ = refl
exact_mem false Offset = refl
exact_mem false _ = refl

pub exact : (f : Format) (r : Row) (m : Mode) → is_exact (fields_of f r m) ≡ true
exact Format.Reg r m = exact_reg (is_used r.a) (is_used r.b) (is_used r.c)
exact Format.Cobr r m = exact_cobr (is_used r.b) r.disp r.hint
exact Format.Ctrl r m = exact_ctrl r.disp r.hint
exact Format.Mem r m = exact_mem (is_used r.c) m
