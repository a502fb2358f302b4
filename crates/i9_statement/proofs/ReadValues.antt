-- Printed numbers and registers are read again.
use Rattle.std.proofs.Common.{◌≡◌, ℕ, ◌^◌, ◌<◌, Bool, true, false, eqb, List, [], ◌∷◌, length, Option, Some, None, refl, ap, ◌∙◌, arith, lit≤}
use Rattle.std.specs.Option.{option_map}
use Rattle.std.specs.List.{list_all}
use Rattle.std.specs.Fmt.{decimal}
use Rattle.std.specs.Str.Parse.{AllDigits, digits_value}
use Rattle.std.proofs.lemmas.Bool.{lt-ltb, and_right}
use Rattle.std.proofs.lemmas.Fmt.{decimal_is_IsNumeral}
use Rattle.i9_text.specs.Text.{are_digits}
use Rattle.i9_text.specs.Written.{word_text, byte_text}
use Rattle.i9_statement.specs.declared.values.Value.TheVariants.{Number}
use Rattle.i9_statement.specs.Registers.{register_place, register_text}
use Rattle.i9_statement.specs.Values.{Names, is_name_byte, decimal_of, magnitude, in_range, value_of}
use Rattle.i9_statement.specs.NumberText.{hex_text, hex_byte_text}
use Rattle.i9_text.proofs.Below.{test_below, passes_below}
use Rattle.i9_text.proofs.WrittenDigits.{number_of-word, number_of-byte, byte_digits, word_digits}
use Rattle.i9_statement.proofs.NameBytes.{name_bytes}

-- ---- numbers

digits_test : (radix : ℕ) (w : List ℕ) → AllDigits radix w → are_digits radix w ≡ true
digits_test radix [] h = refl
digits_test radix (c ∷ w) h = rw (lt-ltb _ _ h.0) (digits_test radix w h.1)

pub decimal_of-digits : (w : List ℕ) → 0 < length w → AllDigits 10 w → decimal_of w ≡ Some (digits_value 10 w)
unfolding decimal_of
decimal_of-digits w some h = rw (lt-ltb _ _ some, digits_test 10 w h) refl

in_range-small : (n : ℕ) → n < 2 ^ 32 → in_range false n ≡ Number n
in_range-small n h = rw (lt-ltb _ _ h) refl

value_of-digits : (names : Names) (w : List ℕ) → 0 < length w → AllDigits 10 w → digits_value 10 w < 2 ^ 32 → value_of names w ≡ Some (Number (digits_value 10 w))
unfolding magnitude value_of
value_of-digits names w some h small = grind (arith, and_right, decimal_of-digits, lt-ltb)

pub value_of-decimal : (names : Names) (n : ℕ) → n < 2 ^ 32 → value_of names (decimal n) ≡ Some (Number n)
value_of-decimal names n small = grind (arith, decimal_is_IsNumeral, value_of-digits)

pub value_of-hex : (names : Names) (n : ℕ) → n < 2 ^ 32 → value_of names (hex_text n) ≡ Some (Number n)
unfolding value_of magnitude hex_text
value_of-hex names n small = ap (option_map (in_range false)) (number_of-word n small) ∙ ap Some (in_range-small n small)

pub value_of-hex_byte : (names : Names) (b : ℕ) → b < 256 → value_of names (hex_byte_text b) ≡ Some (Number b)
unfolding value_of magnitude hex_byte_text
value_of-hex_byte names b small = ap (option_map (in_range false)) (number_of-byte b small) ∙ ap Some (in_range-small b (omega arith))

-- ---- what the texts are made of

pub decimal_bytes : (n : ℕ) → n < 2 ^ 32 → list_all is_name_byte (decimal n) ≡ true
decimal_bytes n small = let h = decimal_is_IsNumeral n (omega arith) in name_bytes (decimal n) 10 (lit≤ tt) h.0.1

-- the text is not empty
abbrev pub has_byte : List ℕ → Bool
has_byte [] = false
has_byte (b ∷ w) = true

pub has_byte-some : (w : List ℕ) → 0 < length w → has_byte w ≡ true
has_byte-some w h = grind arith

pub decimal_some : (n : ℕ) → n < 2 ^ 32 → 0 < length (decimal n)
decimal_some n small = (decimal_is_IsNumeral n (omega arith)).0.0

pub hex_bytes : (n : ℕ) → list_all is_name_byte (hex_text n) ≡ true
unfolding hex_text
hex_bytes n = name_bytes (word_text n) 16 (lit≤ tt) (word_digits n)

pub hex_byte_bytes : (b : ℕ) → b < 256 → list_all is_name_byte (hex_byte_text b) ≡ true
unfolding hex_byte_text
hex_byte_bytes b h = name_bytes (byte_text b) 16 (lit≤ tt) (byte_digits b h)

-- ---- registers

abbrev pub found_at : Option ℕ → ℕ → Bool
found_at (Some j) k = eqb j k
found_at None k = false

pub found_true : (o : Option ℕ) (k : ℕ) → found_at o k ≡ true → o ≡ Some k
found_true o k h = grind arith

all_found : test_below (λ k. found_at (register_place (register_text k)) k) 39 ≡ true
unfolding register_place register_text
all_found = refl

pub register_place-text : (k : ℕ) → k < 39 → register_place (register_text k) ≡ Some k
register_place-text k h = found_true _ k (passes_below (λ j. found_at (register_place (register_text j)) j) 39 k all_found h)

all_bytes : test_below (λ k. list_all is_name_byte (register_text k)) 39 ≡ true
unfolding register_text
all_bytes = refl

pub register_bytes : (k : ℕ) → k < 39 → list_all is_name_byte (register_text k) ≡ true
register_bytes k h = passes_below (λ j. list_all is_name_byte (register_text j)) 39 k all_bytes h

all_some : test_below (λ k. has_byte (register_text k)) 39 ≡ true
unfolding register_text
all_some = refl

pub register_some : (k : ℕ) → k < 39 → has_byte (register_text k) ≡ true
register_some k h = passes_below (λ j. has_byte (register_text j)) 39 k all_some h
