-- The ELF file that is written for an image.
use Rattle.std.specs.Prelude.{ℕ, ◌+◌, ◌*◌, List, [], ◌∷◌, ◌++◌, length}
use Rattle.std.specs.List.{flat_map}
use Rattle.byteorder.specs.Endian.{little_bytes}
use Rattle.i9_model.specs.Image.{Part, pairs_of}
use Rattle.i9_hex.specs.Runs.{SaySameBytes}
use Rattle.i9_elf.specs.Files.{magic, file_header_size, bits_32, low_first, executable, i960, header_size, load_kind}
use Rattle.i9_elf.specs.Files.{IsImage}

-- how many runs a file has at most
abbrev pub most_headers : ℕ
most_headers = 65535

-- numbers low byte first
abbrev pub halves : List ℕ → List ℕ
halves ns = flat_map (little_bytes 2) ns

abbrev pub words : List ℕ → List ℕ
words ns = flat_map (little_bytes 4) ns

-- magic, class, order, version, and zeros
abbrev pub identity : List ℕ
identity = magic ++ bits_32 ∷ low_first ∷ 1 ∷ 0 ∷ 0 ∷ 0 ∷ 0 ∷ 0 ∷ 0 ∷ 0 ∷ 0 ∷ 0 ∷ []

-- type and machine; version, entry, place of the program headers, no section headers, flags; size of this header; size
-- and number of the program headers; no section headers
abbrev pub file_header : ℕ → List ℕ
file_header count = identity ++ halves (executable ∷ i960 ∷ []) ++ words (1 ∷ 0 ∷ file_header_size ∷ 0 ∷ 0 ∷ [])
    ++ halves (file_header_size ∷ header_size ∷ count ∷ 0 ∷ 0 ∷ 0 ∷ [])

-- the flags of a header: read, write and execute
abbrev pub all_access : ℕ
all_access = 7

-- the header of a run whose bytes stand at a place of the file: type, offset, virtual and physical address, bytes in
-- file and in memory, flags, alignment
abbrev pub program_header : ℕ → Part → List ℕ
program_header place run =
    words (load_kind ∷ place ∷ run.address ∷ run.address ∷ length run.bytes ∷ length run.bytes ∷ all_access ∷ 1 ∷ [])

-- those of runs whose bytes stand one after the other
abbrev pub program_headers : ℕ → List Part → List ℕ
program_headers place [] = []
program_headers place (run ∷ runs) = program_header place run ++ program_headers (place + length run.bytes) runs

-- where the bytes of so many runs begin
abbrev pub bytes_place : ℕ → ℕ
bytes_place count = file_header_size + header_size * count

-- the file of runs
unfoldable pub file_of : List Part → List ℕ
file_of runs =
    file_header (length runs) ++ program_headers (bytes_place (length runs)) runs
    ++ flat_map (λ (run : Part). run.bytes) runs

-- a file without fault that says the bytes of an image
pub record ReadsBack (file : List ℕ) (image : List Part) : Type 0 where
  pub pairs : List (ℕ × ℕ)
  pub read : IsImage file pairs
  pub same : SaySameBytes (pairs_of image) pairs
