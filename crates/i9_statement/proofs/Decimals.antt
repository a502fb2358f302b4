-- Decimal numbers of any length, with a limit.
use Rattle.std.proofs.Common.{◌≡◌, ℕ, ◌+◌, ◌*◌, ◌^◌, ◌<◌, ◌≤◌, true, List, [], ◌∷◌, length, get_or, Some, None, refl, arith}
use Rattle.std.specs.Option.{option_map}
use Rattle.std.specs.Char.{digit_value, is_digit}
use Rattle.std.specs.Str.Parse.{AllDigits}
use Rattle.std.proofs.lemmas.Bool.{and_parts, and_right, lt-ltb, le-ltb, ltb-true, leb-true, cases_Bool}
use Rattle.std.proofs.lemmas.Bool.Decides.{nat_tests}
use Rattle.std.proofs.lemmas.List.Folds.{list_all_at}
use Rattle.std.proofs.lemmas.Option.{cond_some}
use Rattle.i9_statement.specs.Values.{decimal_of, capped}
use Rattle.std.proofs.lemmas.Int.Digits.{digits_value-lt}
use Rattle.std.proofs.Math.Nat.{pow-le-pow_right}
use Rattle.i9_text.specs.Text.{number_of, are_digits}

pub decimal_of-empty : (w : List ℕ) → length w ≡ 0 → decimal_of w ≡ None
unfolding decimal_of
decimal_of-empty w h = rw h refl

pub decimal_of-other : (w : List ℕ) (i : ℕ) → i < length w → 10 ≤ digit_value (get_or w i 0) → decimal_of w ≡ None
unfolding decimal_of
decimal_of-other w i lt h = grind (arith, le-ltb, list_all_at, and_right)

-- the limit before or after a digit is the same
pub capped_digit : (m d : ℕ) → capped (capped m * 10 + d) ≡ capped (m * 10 + d)
capped_digit m d = grind (arith, nat_tests)

pub capped_small : (m : ℕ) → capped m ≤ 2 ^ 32
capped_small m = grind (arith, nat_tests)

pub capped_low : (m : ℕ) → m < 2 ^ 32 → capped m ≡ m
capped_low m h = rw (lt-ltb m (2 ^ 32) h) refl

-- eight hexadecimal digits are below the limit
digits_from_test : (radix : ℕ) (w : List ℕ) → are_digits radix w ≡ true → AllDigits radix w
digits_from_test radix [] h = tt
digits_from_test radix (c ∷ w) h = let parts = and_parts (is_digit c radix) (are_digits radix w) h in (ltb-true _ _ parts.0, digits_from_test radix w parts.1)

pub capped_hex : (w : List ℕ) → option_map capped (number_of 16 8 w) ≡ number_of 16 8 w
unfolding number_of
capped_hex w =
    grind (arith, cases_Bool, capped_low, and_parts, leb-true, digits_value-lt, digits_from_test, pow-le-pow_right)

pub hex_below : (w : List ℕ) (n : ℕ) → number_of 16 8 w ≡ Some n → n < 2 ^ 32
unfolding number_of
hex_below w n e = grind (arith, cond_some, and_parts, leb-true, digits_value-lt, digits_from_test, pow-le-pow_right)
