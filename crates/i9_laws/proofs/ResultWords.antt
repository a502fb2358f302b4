-- The results of words are words.
use Rattle.std.proofs.Common.{◌≡◌, ℕ, zero, suc, ◌+◌, ◌-◌, ◌*◌, ◌/◌, ◌%◌, ◌^◌, ◌<◌, Bool, true, false, cond, List, [], ◌∷◌, Option, Some, None, refl, sym, ap, ◌∙◌, subst, arith, rules, add-zero, bit_and, bit_or, ℤ}
use Rattle.std.specs.Prelude.{nat_lt, slice_index, ◌==◌, pos, negsuc}
use Rattle.std.proofs.lemmas.Bool.{eqb-false}
use Rattle.std.proofs.lemmas.Nat.{and_le_l, or_of_32, xor_of_32, pow_below, pow_pos, pow-add, mul-lt, mul-add-lt, div_below, shr_le, shr_below, shl-shr, mod_below, mod-pow-add}
use Rattle.std.proofs.Math.Nat.{mul-div-mul_right, mul-mod_left, mod-le, div-le_self}
use Rattle.i9_isa.specs.declared.op.Op.{Op}
use Rattle.i9_isa.specs.declared.op.Op.TheVariants.{Emul, Divo, Remo, Rotate, Movl, Movt, Movq, Ediv}
use Rattle.i9_isa.specs.Words.{bit}
use Rattle.i9_model.specs.declared.arith.Arith.TheVariants.{Overflow, ZeroDivide}
use Rattle.i9_model.specs.Writes.{wrapped}
use Rattle.i9_model.specs.Operands.{reduced}
use Rattle.i9_model.specs.Numbers.{complement, bit_word, highest_one}
use Rattle.i9_model.specs.Results.{Answer, word, words, code, faulting, checked, found, turned_left, low_bits, shifted_right, long, long_divided, result_of, results_by}
use Rattle.i9_model.specs.Step.{values_of}
use Rattle.i9_laws.specs.Kept.{IsWord}
use Rattle.i9_laws.proofs.StoredWords.{AreBelow}

-- ---- words

abbrev pub AreWords : List ℕ → Type 0
AreWords vs = AreBelow (2 ^ 32) vs

and_word : (x y : ℕ) → IsWord x → IsWord (bit_and x y)
and_word x y h = let k = and_le_l x y in omega (arith, h, k)

complement_word : (x : ℕ) → IsWord (complement x)
complement_word x = omega arith

bit_is_word : (place : ℕ) → IsWord (bit_word place)
bit_is_word place = pow_below (place % 32) 32 (omega arith)

wrapped_word : (x : ℕ) → IsWord (wrapped x)
wrapped_word x = omega arith

reduced_word : (z : ℤ) → IsWord (reduced z)
reduced_word (pos n) = omega arith
reduced_word (negsuc n) = omega arith

pub either_word : (b : Bool) (x y : ℕ) → IsWord x → IsWord y → IsWord (cond b x y)
either_word b x y h k = grind (arith, h, k)

shifted_word : (w p : ℕ) → IsWord w → IsWord (w / 2 ^ p)
shifted_word w p h = let k = shr_le w p in omega (arith, h, k)

right_word : (w p : ℕ) → IsWord w → IsWord (shifted_right w p)
right_word w p h = either_word (nat_lt p 32) (w / 2 ^ p) 0 (shifted_word w p h) (omega arith)

low_word : (count w : ℕ) → IsWord w → IsWord (low_bits count w)
low_word count w h = either_word (nat_lt count 32) (w % 2 ^ count) w (let k = mod-le w (2 ^ count) in omega (arith, h, k)) h

turned_word : (w p : ℕ) → IsWord w → p < 32 → IsWord (turned_left w p)
turned_word w p h k =
    let q = 32 - p in
    let e : q + p ≡ 32 = omega arith in
    let sum : p + q ≡ 32 = omega arith in
    let whole : 2 ^ 32 ≡ 2 ^ q * 2 ^ p = ap (λ n. 2 ^ n) (sym e) ∙ pow-add 2 q p in
    let high : w * 2 ^ p / 2 ^ 32 ≡ w / 2 ^ q = rw whole (mul-div-mul_right w (2 ^ q) (pow_pos p)) in
    let low : w * 2 ^ p % 2 ^ 32 ≡ w % 2 ^ q * 2 ^ p =
    ap (λ n. w * 2 ^ p % 2 ^ n) (sym e) ∙ mod-pow-add (w * 2 ^ p) q p ∙ rw (shl-shr w p, mul-mod_left w (2 ^ p), add-zero) refl in
    let above : w / 2 ^ q < 2 ^ p = shr_below w p q (subst (λ n. w < 2 ^ n) (sym sum) h) in
    let most = mul-add-lt (w % 2 ^ q) (2 ^ p) (w / 2 ^ q) (2 ^ q) (mod_below w (2 ^ q) (pow_pos q)) above in
    let limit : 2 ^ p * 2 ^ q ≡ 2 ^ 32 = sym (pow-add 2 p q) ∙ ap (λ n. 2 ^ n) sum in
    omega (arith, high, low, most, limit)

-- ---- answers

overflow_words : (b c : Bool) (v ac : ℕ) → IsWord v
    → AreWords (cond b (cond c (word v (bit_or ac (2 ^ 8))) (faulting Overflow ac)) (word v ac)).values
overflow_words true true v ac h = (h, tt)
overflow_words true false v ac h = tt
overflow_words false c v ac h = (h, tt)

checked_words : (z : ℤ) (ac : ℕ) → AreWords (checked z ac).values
checked_words z ac = overflow_words _ _ (reduced z) ac (reduced_word z)

divided_words : (b : Bool) (r : Answer) (ac : ℕ) → (b ≡ false → AreWords r.values) → AreWords (cond b (faulting ZeroDivide ac) r).values
divided_words true r ac h = tt
divided_words false r ac h = h refl

-- a place that is found is below the limit
abbrev IsPlace : ℕ → Option ℕ → Type 0
IsPlace limit None = Unit {0}
IsPlace limit (Some place) = place < limit

place_by : (b : Bool) (k : ℕ) (o : Option ℕ) → IsPlace k o → IsPlace (suc k) (cond b (Some k) o)
place_by true k o h = omega arith
place_by false k None h = tt
place_by false k (Some place) h = omega (arith, h)

highest_place : (k w : ℕ) → IsPlace k (highest_one k w)
unfolding highest_one
highest_place zero w = tt
highest_place (suc k) w = place_by (bit w k) k (highest_one k w) (highest_place k w)

found_words : (o : Option ℕ) (ac : ℕ) → IsPlace 32 o → AreWords (found o ac).values
found_words None ac h = (omega arith, tt)
found_words (Some place) ac h = (omega (arith, h), tt)

unless_words : (b : Bool) (new ac : ℕ) → AreWords (cond b (words [] ac) (code new ac)).values
unless_words true new ac = tt
unless_words false new ac = tt

ruleset result_rules = (
  and_word,
  or_of_32,
  xor_of_32,
  complement_word,
  bit_is_word,
  reduced_word,
  either_word,
  right_word,
  low_word,
  checked_words,
  divided_words,
  found_words,
  highest_place,
  unless_words,
)

result_words : (op : Op) (a b c ac : ℕ) → IsWord a → IsWord b → IsWord c → AreWords (values_of (result_of op a b c ac))
result_words Emul a b c ac h k l =
    (wrapped_word (a * b), (div_below (a * b) (2 ^ 32) (2 ^ 32) (omega arith) (mul-lt a b (2 ^ 32) (2 ^ 32) h k), tt))
result_words Divo a b c ac h k l = divided_words (a == 0) (word (b / a) ac) ac (λ e. (let m = div-le_self b a in omega (arith, m, k), tt))
result_words Remo a b c ac h k l = divided_words (a == 0) (word (b % a) ac) ac (λ e. (let m = mod-le b a in omega (arith, m, k), tt))
result_words Rotate a b c ac h k l = (turned_word b (a % 32) k (omega arith), tt)
result_words _ a b c ac h k l = search (rules, arith, result_rules)

-- each item of a list of words is a word
pub item_word : (vs : List ℕ) (k : ℕ) → AreWords vs → IsWord (slice_index vs k)
item_word [] k h = omega arith
item_word (v ∷ vs) zero h = h.0
item_word (v ∷ vs) (suc k) h = item_word vs k h.1

pub results_words : (op : Op) (a b : List ℕ) (c ac : ℕ) → AreWords a → AreWords b → IsWord c → AreWords (values_of (results_by op a b c ac))
results_words Movl a b c ac h k l = (item_word a 0 h, (item_word a 1 h, tt))
results_words Movt a b c ac h k l = (item_word a 0 h, (item_word a 1 h, (item_word a 2 h, tt)))
results_words Movq a b c ac h k l = (item_word a 0 h, (item_word a 1 h, (item_word a 2 h, (item_word a 3 h, tt))))
results_words Ediv a b c ac h k l =
    let d = slice_index a 0 in
    let n = long (slice_index b 0) (slice_index b 1) in
    let small : IsWord d = item_word a 0 h in
    divided_words (d == 0) (words (long_divided n d) ac) ac (λ e.
    let m = mod_below n d (pos_from d e) in
    (omega (arith, m, small), (wrapped_word (n / d), tt)))
  where
    pos_from : (d : ℕ) → (d == 0) ≡ false → 0 < d
    pos_from d e = let other = eqb-false d 0 e in omega (arith, other)
results_words op a b c ac h k l = result_words op (slice_index a 0) (slice_index b 0) c ac (item_word a 0 h) (item_word b 0 k) l
