-- What the reader answers.
use Rattle.std.specs.Prelude.{◌≡◌, ℕ, List, Result, Ok, Err}
use Rattle.i9_model.specs.Image.{Part, pairs_of}
use Rattle.i9_hex.specs.declared.error.HexError.{HexError}
use Rattle.i9_hex.specs.declared.error.HexError.TheVariants as hex
use Rattle.i9_hex.specs.Reading.{place_of}
use Rattle.i9_elf.specs.declared.error.ElfError.{ElfError}
use Rattle.i9_elf.specs.declared.error.ElfError.TheVariants as elf
use Rattle.i9_elf.specs.declared.images.ImageFault.{ImageFault}
use Rattle.i9_elf.specs.declared.images.ImageFault.TheVariants.{Line, Elf}
use Rattle.i9_elf.specs.declared.images.ImageError.{ImageError}
use Rattle.i9_elf.specs.declared.images.ImageError.TheVariants.{Bad, Memory}
use Rattle.i9_elf.specs.Images.{Fault, AtLine, OfElf}

-- a fault in plain form
abbrev pub fault_in : ImageFault → Fault
fault_in (Line f) = AtLine (place_of f)
fault_in (Elf kind) = OfElf kind

-- the error is this fault, or want of memory
abbrev pub Refuses : ImageError → Result (List (ℕ × ℕ)) Fault → Type 0
Refuses Memory answer = Unit {0}
Refuses (Bad f) answer = answer ≡ Err (fault_in f)

-- the result is this answer, the pairs of an image or a first fault, or want of memory
abbrev pub Reads : Result (List Part) ImageError → Result (List (ℕ × ℕ)) Fault → Type 0
Reads (Ok image) answer = answer ≡ Ok (pairs_of image)
Reads (Err e) answer = Refuses e answer

-- the fact holds of the fault, where the error is one
abbrev pub IfBad : ImageError → (ImageFault → Type 0) → Type 0
IfBad Memory P = Unit {0}
IfBad (Bad f) P = P f

-- what either reader answers, as this one's
abbrev pub from_hex : Result (List Part) HexError → Result (List Part) ImageError
from_hex (Ok image) = Ok image
from_hex (Err (hex.Bad f)) = Err (Bad (Line f))
from_hex (Err hex.Memory) = Err Memory

abbrev pub from_elf : Result (List Part) ElfError → Result (List Part) ImageError
from_elf (Ok image) = Ok image
from_elf (Err (elf.Bad kind)) = Err (Bad (Elf kind))
from_elf (Err elf.Memory) = Err Memory
