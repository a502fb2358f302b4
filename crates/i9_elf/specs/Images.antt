-- An image in either format: what it says, and which fault it has.
use Rattle.std.specs.Prelude.{◌≡◌, ℕ, List, take}
use Rattle.i9_text.specs.Text.{lines_of}
use Rattle.i9_model.specs.HexText as hex
use Rattle.i9_elf.specs.Files as elf
use Rattle.i9_elf.specs.Files.{magic}

-- the file begins as ELF files do
abbrev pub HasMagic : List ℕ → Type 0
HasMagic file = take 4 file ≡ magic

-- an ELF file where it begins so, and else Intel HEX text
pub data IsImage (file : List ℕ) (pairs : List (ℕ × ℕ)) : Type 0 where
  says_elf : elf.IsImage file pairs → IsImage file pairs
  says_hex : ¬ HasMagic file → hex.IsImage (lines_of file) pairs → IsImage file pairs

-- the first fault: at a line, with its kind, or the kind of an ELF file's
pub data Fault : Type 0 where
  AtLine : ℕ × ℕ → Fault
  OfElf : ℕ → Fault

pub data IsRefused (file : List ℕ) : Fault → Type 0 where
  refused_elf : (kind : ℕ) → HasMagic file → elf.IsRefused file kind → IsRefused file (OfElf kind)
  refused_hex : (fault : ℕ × ℕ) → ¬ HasMagic file → hex.IsRefused (lines_of file) fault → IsRefused file (AtLine fault)
