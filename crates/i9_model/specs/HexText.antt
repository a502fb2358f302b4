-- Intel HEX text: what its lines say, as an image's pairs, and which fault a line has.
use Rattle.std.specs.Prelude.{◌≡◌, ℕ, ◌+◌, ◌*◌, ◌/◌, ◌%◌, ◌≤◌, List, [], ◌∷◌, ◌++◌, length, slice_index, sum, Bool}
use Rattle.std.specs.Prelude.{true, false, not, ◌==◌, ◌||◌, nat_lt, if◌then◌else◌, Option, Some, None, Result, Ok, Err}
use Rattle.hex.specs.Hex.{decode_of}
use Rattle.hex.specs.declared.error.FromHexError.{FromHexError}
use Rattle.i9_text.specs.FirstFault as texts
use Rattle.i9_model.specs.Image.{address_count, pairs_at}

-- the byte that each record begins with
abbrev pub colon : ℕ
colon = 58

-- how many data bytes an image has at most
abbrev pub most_bytes : ℕ
most_bytes = 4194304

-- ---- the types of records

abbrev pub data_type : ℕ
data_type = 0

abbrev pub end_type : ℕ
end_type = 1

abbrev pub base_type : ℕ
base_type = 2

abbrev pub start_segment_type : ℕ
start_segment_type = 3

abbrev pub upper_type : ℕ
upper_type = 4

abbrev pub start_address_type : ℕ
start_address_type = 5

-- ---- the kinds of faults

abbrev pub no_colon : ℕ
no_colon = 1

abbrev pub bad_digits : ℕ
bad_digits = 2

abbrev pub bad_count : ℕ
bad_count = 3

abbrev pub bad_check : ℕ
bad_check = 4

abbrev pub bad_type : ℕ
bad_type = 5

abbrev pub no_end : ℕ
no_end = 6

abbrev pub after_end : ℕ
after_end = 7

abbrev pub too_many_bytes : ℕ
too_many_bytes = 8

-- ---- the state after some lines

-- where the bytes of data records are: at an upper half of the address, or at a segment's base
pub data Origin : Type 0 where
  Upper : ℕ → Origin
  Base : ℕ → Origin

-- The address of a number of a record. Past an upper half addresses run on; within a segment they begin anew after
-- 65536.
abbrev pub address_in : Origin → ℕ → ℕ
address_in (Upper half) n = (half * 65536 + n) % address_count
address_in (Base base) n = base * 16 + n % 65536

-- what the lines so far say: their pairs, where the next data are, and whether the end record was read
pub record HexState : Type 0 where
  pub pairs : List (ℕ × ℕ)
  pub origin : Origin
  pub ended : Bool

abbrev pub start : HexState
start = record { pairs = []; origin = Upper 0; ended = false }

-- ---- what a line says

-- the bytes of a record: count, address field with the high byte first, type, data and check byte
abbrev pub record_bytes : ℕ → ℕ → List ℕ → ℕ → List ℕ
record_bytes record_type address content check = length content ∷ address / 256 ∷ address % 256 ∷ record_type ∷ content
    ++ check ∷ []

-- the line is a record: a colon, and two digits for each of its bytes, which with the check byte sum to 0 modulo 256
pub record IsRecord (line : List ℕ) (record_type address : ℕ) (content : List ℕ) : Type 0 where
  pub digits : List ℕ
  pub check : ℕ
  pub text : line ≡ colon ∷ digits
  pub bytes : decode_of digits ≡ Ok (record_bytes record_type address content check)
  pub whole : sum (record_bytes record_type address content check) % 256 ≡ 0

-- what a line without fault says: nothing where it is empty, else one case for each type of record
pub data Says : HexState → List ℕ → HexState → Type 0 where
  says_nothing : (s : HexState) → Says s [] s
  says_bytes : (s : HexState) (line : List ℕ) (a : ℕ) (bs : List ℕ) → s.ended ≡ false → IsRecord line data_type a bs
      → length s.pairs + length bs ≤ most_bytes
      → Says s line (record s { pairs = s.pairs ++ pairs_at (address_in s.origin) a bs })
  says_end : (s : HexState) (line : List ℕ) (a : ℕ) → s.ended ≡ false → IsRecord line end_type a []
      → Says s line (record s { ended = true })
  says_base : (s : HexState) (line : List ℕ) (a high low : ℕ) → s.ended ≡ false
      → IsRecord line base_type a (high ∷ low ∷ [])
      → Says s line (record s { origin = Base (high * 256 + low) })
  says_start_segment : (s : HexState) (line : List ℕ) (a : ℕ) (c : List ℕ) → s.ended ≡ false → length c ≡ 4
      → IsRecord line start_segment_type a c
      → Says s line s
  says_upper : (s : HexState) (line : List ℕ) (a high low : ℕ) → s.ended ≡ false
      → IsRecord line upper_type a (high ∷ low ∷ [])
      → Says s line (record s { origin = Upper (high * 256 + low) })
  says_start_address : (s : HexState) (line : List ℕ) (a : ℕ) (c : List ℕ) → s.ended ≡ false → length c ≡ 4
      → IsRecord line start_address_type a c
      → Says s line s

-- ---- which fault a line has

-- the first of two faults that there is
abbrev pub first_fault : Option ℕ → Option ℕ → Option ℕ
first_fault (Some kind) later = Some kind
first_fault None later = later

-- whether a record of this type may have this count
abbrev pub fits_type : ℕ → ℕ → Bool
fits_type record_type count =
    if record_type == data_type then true
    else if record_type == end_type then count == 0
    else if record_type == base_type then count == 2
    else if record_type == upper_type then count == 2
    else count == 4

-- the fault of a record's bytes by themselves
unfoldable pub fault_of_bytes : List ℕ → Option ℕ
fault_of_bytes bytes =
    if nat_lt (length bytes) 5 || not (length bytes == slice_index bytes 0 + 5) then Some bad_count
    else if not (sum bytes % 256 == 0) then Some bad_check
    else if nat_lt start_address_type (slice_index bytes 3) then Some bad_type
    else if not (fits_type (slice_index bytes 3) (slice_index bytes 0)) then Some bad_count
    else None

-- the fault of this many data bytes more
abbrev pub fault_of_more : HexState → ℕ → Option ℕ
fault_of_more s count = if nat_lt most_bytes (length s.pairs + count) then Some too_many_bytes else None

-- the fault of a record's bytes after the bytes of earlier records
abbrev pub fault_of_room : HexState → List ℕ → Option ℕ
fault_of_room s bytes = if slice_index bytes 3 == data_type then fault_of_more s (slice_index bytes 0) else None

-- the fault of what stands behind the colon
abbrev pub fault_of_digits : HexState → Result (List ℕ) FromHexError → Option ℕ
fault_of_digits s (Err e) = Some bad_digits
fault_of_digits s (Ok bytes) = first_fault (fault_of_bytes bytes) (fault_of_room s bytes)

-- The fault of a line, the first that applies of these: the line stands after the end record; no colon stands first; no
-- pairs of digits follow it; there are fewer than 5 bytes, or not as many as the count says; they do not sum to 0
-- modulo 256; the type is unknown; the count is not that of the type; there are too many data bytes.
unfoldable pub fault_of : HexState → List ℕ → Option ℕ
fault_of s [] = None
fault_of s (first ∷ digits) =
    if s.ended then Some after_end
    else if not (first == colon) then Some no_colon
    else fault_of_digits s (decode_of digits)

-- the fault of a text that ends here: there is no end record
abbrev pub missing_end : HexState → Option ℕ
missing_end s = if s.ended then None else Some no_end

-- ---- whole texts

-- the lines say these pairs, and one of them is the end record
pub record IsImage (lines : List (List ℕ)) (pairs : List (ℕ × ℕ)) : Type 0 where
  pub last : HexState
  pub says : texts.SaysAll Says start lines last
  pub ended : last.ended ≡ true
  pub same : last.pairs ≡ pairs

-- the first line at fault, counted from 1, with its kind
abbrev pub IsRefused : List (List ℕ) → ℕ × ℕ → Type 0
IsRefused lines fault = texts.IsRefused Says fault_of missing_end start lines fault
