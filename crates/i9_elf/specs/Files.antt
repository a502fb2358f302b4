-- ELF files of 32 bits, low byte first, for the i960: what one says of memory, and which fault it has.
use Rattle.std.specs.Prelude.{◌≡◌, ℕ, zero, suc, ◌+◌, ◌-◌, ◌*◌, ◌<◌, ◌≤◌, List, [], ◌∷◌, ◌++◌, length, take, drop}
use Rattle.std.specs.Prelude.{slice_index, replicate, Bool, not, ◌==◌, ◌&&◌, ◌||◌, nat_lt, if◌then◌else◌, Option, Some}
use Rattle.std.specs.Prelude.{None}
use Rattle.std.specs.List.{filter, flat_map, AllByRecursion}
use Rattle.byteorder.specs.Endian.{little_number}
use Rattle.i9_model.specs.Image.{upwards}
use Rattle.i9_model.specs.HexText.{most_bytes}

-- the bytes that each file begins with: 7F and "ELF"
abbrev pub magic : List ℕ
magic = 127 ∷ 69 ∷ 76 ∷ 70 ∷ []

-- the half and the word at a place, low byte first
abbrev pub half_at : ℕ → List ℕ → ℕ
half_at at bytes = little_number 2 (drop at bytes)

abbrev pub word_at : ℕ → List ℕ → ℕ
word_at at bytes = little_number 4 (drop at bytes)

-- ---- the file header

abbrev pub file_header_size : ℕ
file_header_size = 52

abbrev pub class_of : List ℕ → ℕ
class_of file = slice_index file 4

abbrev pub order_of : List ℕ → ℕ
order_of file = slice_index file 5

abbrev pub type_of : List ℕ → ℕ
type_of file = half_at 16 file

abbrev pub machine_of : List ℕ → ℕ
machine_of file = half_at 18 file

-- where the program headers stand, what size each has, and how many there are
abbrev pub headers_place : List ℕ → ℕ
headers_place file = word_at 28 file

abbrev pub header_size_of : List ℕ → ℕ
header_size_of file = half_at 42 file

abbrev pub header_count : List ℕ → ℕ
header_count file = half_at 44 file

-- class 1: 32 bits
abbrev pub bits_32 : ℕ
bits_32 = 1

-- order 1: low byte first
abbrev pub low_first : ℕ
low_first = 1

-- type 2: a program that is linked
abbrev pub executable : ℕ
executable = 2

-- machine 19: i960
abbrev pub i960 : ℕ
i960 = 19

-- ---- program headers

abbrev pub header_size : ℕ
header_size = 32

-- what a program header says, as far as it is used; sizes in bytes
pub record Header : Type 0 where
  pub kind : ℕ
  pub offset : ℕ
  pub address : ℕ
  pub in_file : ℕ
  pub in_memory : ℕ

-- the header that these bytes begin with; its address is the physical one
abbrev pub header_of : List ℕ → Header
header_of bytes = record {
  kind = word_at 0 bytes;
  offset = word_at 4 bytes;
  address = word_at 12 bytes;
  in_file = word_at 16 bytes;
  in_memory = word_at 20 bytes;
}

-- so many headers, one after the other
abbrev pub headers_in : ℕ → List ℕ → List Header
headers_in zero bytes = []
headers_in (suc n) bytes = header_of bytes ∷ headers_in n (drop header_size bytes)

abbrev pub headers_of : List ℕ → List Header
headers_of file = headers_in (header_count file) (drop (headers_place file) file)

-- type 1: a header that loads
abbrev pub load_kind : ℕ
load_kind = 1

abbrev pub is_load : Header → Bool
is_load h = h.kind == load_kind

-- the headers that load, in order
abbrev pub loads_of : List ℕ → List Header
loads_of file = filter is_load (headers_of file)

-- how many bytes they have in memory
abbrev pub memory_size : List Header → ℕ
memory_size [] = 0
memory_size (h ∷ loads) = h.in_memory + memory_size loads

-- ---- what is loaded

-- the bytes in file, and zeros up to the bytes in memory
abbrev pub loaded_bytes : List ℕ → Header → List ℕ
loaded_bytes file h = take h.in_file (drop h.offset file) ++ replicate (h.in_memory - h.in_file) 0

abbrev pub loaded_pairs : List ℕ → Header → List (ℕ × ℕ)
loaded_pairs file h = upwards h.address (loaded_bytes file h)

-- the bytes in file stand in the file, and are no more than those in memory
pub record IsLoadable (file : List ℕ) (h : Header) : Type 0 where
  pub sizes : h.in_file ≤ h.in_memory
  pub inside : 0 < h.in_file → h.offset + h.in_file ≤ length file

-- a file without fault, and the pairs of address and byte that it says
pub record IsImage (file : List ℕ) (pairs : List (ℕ × ℕ)) : Type 0 where
  pub begins : take 4 file ≡ magic
  pub long : file_header_size ≤ length file
  pub class : class_of file ≡ bits_32
  pub order : order_of file ≡ low_first
  pub program : type_of file ≡ executable
  pub machine : machine_of file ≡ i960
  pub size : 0 < header_count file → header_size_of file ≡ header_size
  pub inside : 0 < header_count file → headers_place file + header_size * header_count file ≤ length file
  pub loads : AllByRecursion (IsLoadable file) (loads_of file)
  pub room : memory_size (loads_of file) ≤ most_bytes
  pub same : flat_map (loaded_pairs file) (loads_of file) ≡ pairs

-- ---- the kinds of faults

abbrev pub too_short : ℕ
too_short = 1

abbrev pub bad_class : ℕ
bad_class = 2

abbrev pub bad_order : ℕ
bad_order = 3

abbrev pub bad_type : ℕ
bad_type = 4

abbrev pub bad_machine : ℕ
bad_machine = 5

abbrev pub bad_header_size : ℕ
bad_header_size = 6

abbrev pub headers_outside : ℕ
headers_outside = 7

abbrev pub bad_load : ℕ
bad_load = 8

abbrev pub too_many_bytes : ℕ
too_many_bytes = 9

-- ---- which fault a file has

abbrev pub has_headers : List ℕ → Bool
has_headers file = nat_lt 0 (header_count file)

-- where the program headers end
abbrev pub headers_end : List ℕ → ℕ
headers_end file = headers_place file + header_size * header_count file

-- the fault of a file before its program headers are looked at, the first that applies
unfoldable pub fault_of_file : List ℕ → Option ℕ
fault_of_file file =
    if nat_lt (length file) file_header_size then Some too_short
    else if not (class_of file == bits_32) then Some bad_class
    else if not (order_of file == low_first) then Some bad_order
    else if not (type_of file == executable) then Some bad_type
    else if not (machine_of file == i960) then Some bad_machine
    else if has_headers file && not (header_size_of file == header_size) then Some bad_header_size
    else if has_headers file && nat_lt (length file) (headers_end file) then Some headers_outside
    else None

-- a header has bytes in file, and they reach past the end of the file
abbrev pub is_cut_off : List ℕ → Header → Bool
is_cut_off file h = nat_lt 0 h.in_file && nat_lt (length file) (h.offset + h.in_file)

-- the fault of a header that loads, behind so many bytes in memory
unfoldable pub fault_of_load : List ℕ → ℕ → Header → Option ℕ
fault_of_load file size h =
    if nat_lt h.in_memory h.in_file || is_cut_off file h then Some bad_load
    else if nat_lt most_bytes (size + h.in_memory) then Some too_many_bytes
    else None

-- the kind of the first fault: of the file, else of the first load at fault
pub data IsRefused (file : List ℕ) : ℕ → Type 0 where
  at_file : (kind : ℕ) → fault_of_file file ≡ Some kind → IsRefused file kind
  at_load : (front : List Header) (h : Header) (back : List Header) (kind : ℕ) → fault_of_file file ≡ None
      → loads_of file ≡ front ++ h ∷ back → AllByRecursion (IsLoadable file) front → memory_size front ≤ most_bytes
      → fault_of_load file (memory_size front) h ≡ Some kind → IsRefused file kind
