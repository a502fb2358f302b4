-- The digits of a written word or byte, and their value.
use Rattle.std.proofs.Common.{◌≡◌, ℕ, ◌/◌, ◌%◌, ◌^◌, ◌<◌, List, [], ◌∷◌, length, Some, refl, arith}
use Rattle.std.specs.List.{AllByRecursion}
use Rattle.std.specs.Int.{w32, to_be_bytes}
use Rattle.std.specs.Str.Parse.{AllDigits}
use Rattle.hex.specs.Hex.{encode_with, encode_upper}
use Rattle.i9_text.specs.Text.{number_of}
use Rattle.i9_text.specs.Written.{word_text, byte_text}
use Rattle.i9_text.proofs.Digits.{number_of-digits, digit_value-upper}

pub AllDigits-encode_upper : (bs : List ℕ) → AllByRecursion (λ b. b < 256) bs → AllDigits 16 (encode_upper bs)
unfolding encode_with
AllDigits-encode_upper [] h = tt
AllDigits-encode_upper (b ∷ bs) h =
    let e1 = digit_value-upper (b / 16) (omega (arith, h.0)) in
    let e2 = digit_value-upper (b % 16) (omega (arith, h.0)) in
    (omega (arith, e1, h.0), (omega (arith, e2, h.0), AllDigits-encode_upper bs h.1))

-- the eight digits of a word
pub word_digits : (w : ℕ) → AllDigits 16 (word_text w)
unfolding word_text
word_digits w = AllDigits-encode_upper (to_be_bytes w32 w) (omega arith, (omega arith, (omega arith, (omega arith, tt))))

pub word_length : (w : ℕ) → length (word_text w) ≡ 8
unfolding word_text encode_with
word_length w = refl

pub number_of-word : (w : ℕ) → w < 2 ^ 32 → number_of 16 8 (word_text w) ≡ Some w
unfolding encode_with word_text
number_of-word w h = grind (arith, word_length, number_of-digits, word_digits, digit_value-upper)

-- the two digits of a byte
pub byte_digits : (b : ℕ) → b < 256 → AllDigits 16 (byte_text b)
unfolding byte_text
byte_digits b h = AllDigits-encode_upper (b ∷ []) (h, tt)

pub number_of-byte : (b : ℕ) → b < 256 → number_of 16 8 (byte_text b) ≡ Some b
unfolding byte_text encode_with
number_of-byte b h = grind (arith, number_of-digits, byte_digits, digit_value-upper)
