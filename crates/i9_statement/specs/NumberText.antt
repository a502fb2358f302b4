-- The text of numbers in hexadecimal digits.
use Rattle.std.specs.Prelude.{ℕ, List, ◌∷◌}
use Rattle.i9_text.specs.Written.{word_text, byte_text}

-- `0x` and eight digits
unfoldable pub hex_text : ℕ → List ℕ
hex_text n = 48 ∷ 120 ∷ word_text n

-- `0x` and two digits
unfoldable pub hex_byte_text : ℕ → List ℕ
hex_byte_text b = 48 ∷ 120 ∷ byte_text b
