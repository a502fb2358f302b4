-- The text that is written for an image.
use Rattle.std.specs.Prelude.{ℕ, zero, suc, ◌+◌, ◌-◌, ◌/◌, ◌%◌, List, [], ◌∷◌, ◌++◌, length, take, drop, sum, min, ◌==◌}
use Rattle.std.specs.Prelude.{if◌then◌else◌}
use Rattle.std.specs.List.{flat_map}
use Rattle.hex.specs.Hex.{encode_upper}
use Rattle.i9_text.specs.Text.{line_feed}
use Rattle.i9_model.specs.Image.{Part, wrapped}
use Rattle.i9_model.specs.HexText.{colon, data_type, end_type, upper_type}

-- ---- one record

-- what brings a sum to a multiple of 256
abbrev pub check_of : List ℕ → ℕ
check_of bytes = (256 - sum bytes % 256) % 256

-- the bytes before the check byte
abbrev pub front_of : ℕ → ℕ → List ℕ → List ℕ
front_of record_type address content = length content ∷ address / 256 ∷ address % 256 ∷ record_type ∷ content

-- the line of a record, in upper case
unfoldable pub record_line : ℕ → ℕ → List ℕ → List ℕ
record_line record_type address content =
    let front = front_of record_type address content in colon ∷ encode_upper (front ++ check_of front ∷ [])

-- ---- pieces, each of them the data of one record

-- how many bytes a piece has from an address on: 16, or those up to the next multiple of 65536
abbrev pub piece_len : ℕ → ℕ
piece_len a = min 16 (65536 - a % 65536)

-- the first so many pieces of the bytes from an address on
unfoldable pub cut : ℕ → ℕ → List ℕ → List Part
cut zero a bs = []
cut (suc n) a [] = []
cut (suc n) a (b ∷ bs) =
    record { address = a; bytes = take (piece_len a) (b ∷ bs) }
    ∷ cut n (wrapped (a + piece_len a)) (drop (piece_len a) (b ∷ bs))

-- all pieces of a segment; there are no more than bytes
abbrev pub pieces_of : Part → List Part
pieces_of p = cut (length p.bytes) p.address p.bytes

-- ---- lines, after an upper half that stands

-- the line of another upper half
abbrev pub upper_lines : ℕ → ℕ → List (List ℕ)
upper_lines upper half = if half == upper then [] else record_line upper_type 0 (half / 256 ∷ half % 256 ∷ []) ∷ []

abbrev pub piece_lines : ℕ → Part → List (List ℕ)
piece_lines upper p = upper_lines upper (p.address / 65536) ++ record_line data_type (p.address % 65536) p.bytes ∷ []

unfoldable pub body_lines : ℕ → List Part → List (List ℕ)
body_lines upper [] = []
body_lines upper (p ∷ ps) = piece_lines upper p ++ body_lines (p.address / 65536) ps

-- the upper half that stands behind them
unfoldable pub upper_after : ℕ → List Part → ℕ
upper_after upper [] = upper
upper_after upper (p ∷ ps) = upper_after (p.address / 65536) ps

-- ---- the whole text

abbrev pub end_line : List ℕ
end_line = record_line end_type 0 []

unfoldable pub hex_lines : List Part → List (List ℕ)
hex_lines parts = body_lines 0 (flat_map pieces_of parts) ++ end_line ∷ []

abbrev pub with_line_feed : List ℕ → List ℕ
with_line_feed line = line ++ line_feed ∷ []

abbrev pub hex_text : List Part → List ℕ
hex_text parts = flat_map with_line_feed (hex_lines parts)
