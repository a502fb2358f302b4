-- The number of a word: where it has one, and how large it is.
use Rattle.std.proofs.Common.{◌≡◌, ℕ, ◌*◌, ◌^◌, ◌<◌, ◌≤◌, true, eqb, List, [], ◌∷◌, length, get_or, Some, None, refl, arith}
use Rattle.std.specs.List.{list_all}
use Rattle.std.specs.Char.{digit_value, is_digit}
use Rattle.std.specs.Str.Parse.{AllDigits, digits_value}
use Rattle.std.proofs.lemmas.Bool.{lt-ltb, le-ltb, eqb-true}
use Rattle.std.proofs.lemmas.List.Folds.{list_all_at}
use Rattle.std.proofs.lemmas.Grind.{common_steps}
use Rattle.std.proofs.Math.Nat.{pow-le-pow_left, pow-le-pow_right, mul-le-mul_left}
use Rattle.hex.specs.Hex.{upper_digits}
use Rattle.i9_text.specs.Text.{number_of}
use Rattle.i9_text.proofs.Below.{passes_below}

list_all-from_digits : (radix : ℕ) (word : List ℕ) → AllDigits radix word → list_all (λ c. is_digit c radix) word ≡ true
list_all-from_digits radix [] h = refl
list_all-from_digits radix (c ∷ cs) h = rw (lt-ltb _ _ h.0) (list_all-from_digits radix cs h.1)

-- a word of digits that is not too long has their value
pub number_of-digits : (radix most : ℕ) (word : List ℕ) → 0 < length word → length word ≤ most → AllDigits radix word → number_of radix most word ≡ Some (digits_value radix word)
unfolding number_of
number_of-digits radix most word some few digits = grind (arith, list_all-from_digits, common_steps)

-- a word with another byte than a digit has none
pub number_of-other : (radix most : ℕ) (word : List ℕ) (i : ℕ) → i < length word → radix ≤ digit_value (get_or word i 0) → number_of radix most word ≡ None
unfolding number_of
number_of-other radix most word i lt h = grind (arith, le-ltb, list_all_at, common_steps)

-- the value of fewer than 15 digits, and of one digit more
pub small_number : (radix value i most : ℕ) → 2 ≤ radix → radix ≤ 16 → value < radix ^ i → i < most → most ≤ 15 → (value < 2 ^ 56) × (value * radix ≤ 16 * value)
small_number radix value i most low high below lt few =
    grind (arith, pow-le-pow_left, pow-le-pow_right, mul-le-mul_left)

-- the value of a digit that is written in upper case
pub digit_value-upper : (d : ℕ) → d < 16 → digit_value (get_or upper_digits d 0) ≡ d
digit_value-upper d h = eqb-true _ _ (passes_below (λ k. eqb (digit_value (get_or upper_digits k 0)) k) 16 d refl h)
