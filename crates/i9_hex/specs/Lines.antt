-- The state after a line, as a function of the state before it. It counts only where the line has no fault.
use Rattle.std.specs.Prelude.{◌≡◌, ℕ, ◌+◌, ◌*◌, ◌≤◌, List, [], ◌∷◌, ◌++◌, length, take, drop, slice_index, true, ◌==◌}
use Rattle.std.specs.Prelude.{if◌then◌else◌, Result, Ok, Err}
use Rattle.hex.specs.Hex.{decode_of}
use Rattle.hex.specs.declared.error.FromHexError.{FromHexError}
use Rattle.i9_model.specs.Image.{pairs_at}
use Rattle.i9_model.specs.HexText.{HexState, Upper, Base, address_in, data_type, end_type, base_type, upper_type}
use Rattle.i9_model.specs.HexText.{fits_type, start_address_type}

-- the number of two bytes, the high one first
abbrev pub short_at : List ℕ → ℕ → ℕ
short_at bytes i = slice_index bytes i * 256 + slice_index bytes (i + 1)

-- what the bytes of a record without fault are
pub record IsSized (bytes : List ℕ) : Type 0 where
  pub size : length bytes ≡ slice_index bytes 0 + 5
  pub known : slice_index bytes 3 ≤ start_address_type
  pub count : fits_type (slice_index bytes 3) (slice_index bytes 0) ≡ true

-- data from a record's address on
abbrev pub with_pairs : HexState → ℕ → List ℕ → HexState
with_pairs s a bs = record s { pairs = s.pairs ++ pairs_at (address_in s.origin) a bs }

-- the bytes of a record
unfoldable pub with_record : HexState → List ℕ → HexState
with_record s bytes =
    if slice_index bytes 3 == data_type then with_pairs s (short_at bytes 1) (take (slice_index bytes 0) (drop 4 bytes))
    else if slice_index bytes 3 == end_type then record s { ended = true }
    else if slice_index bytes 3 == base_type then record s { origin = Base (short_at bytes 4) }
    else if slice_index bytes 3 == upper_type then record s { origin = Upper (short_at bytes 4) }
    else s

-- what stands behind the colon
abbrev pub with_digits : HexState → Result (List ℕ) FromHexError → HexState
with_digits s (Ok bytes) = with_record s bytes
with_digits s (Err e) = s

abbrev pub with_line : HexState → List ℕ → HexState
with_line s [] = s
with_line s (first ∷ digits) = with_digits s (decode_of digits)
