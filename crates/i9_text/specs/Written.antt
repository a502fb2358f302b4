-- Numbers as they are written.
use Rattle.std.specs.Prelude.{ℕ, List, [], ◌∷◌}
use Rattle.std.specs.Int.{w32, to_be_bytes}
use Rattle.hex.specs.Hex.{encode_upper}

-- a word in eight upper-case hexadecimal digits
unfoldable pub word_text : ℕ → List ℕ
word_text w = encode_upper (to_be_bytes w32 w)

-- a byte in two of them
unfoldable pub byte_text : ℕ → List ℕ
byte_text b = encode_upper (b ∷ [])
