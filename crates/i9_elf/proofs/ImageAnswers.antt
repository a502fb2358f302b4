-- What the reader answers by how a file begins, and that each file has one answer.
use Rattle.std.proofs.Common.{◌≡◌, ℕ, ◌⊎◌, inl, inr, List, take, Result, Ok, Err, ap, IfOk, IfErr, arith}
use Rattle.std.specs.Str.{bytes_eq}
use Rattle.std.proofs.lemmas.Bool.{cases_Bool}
use Rattle.std.proofs.lemmas.Slice.Eq.{bytes_eq-Decides}
use Rattle.i9_text.specs.Text.{lines_of}
use Rattle.i9_model.specs.HexText as hex
use Rattle.i9_model.specs.Image.{Part, pairs_of}
use Rattle.i9_hex.specs.declared.error.HexError.{HexError}
use Rattle.i9_hex.specs.declared.error.HexError.TheVariants as hexes
use Rattle.i9_hex.specs.Reading as hex_reading
use Rattle.i9_hex.proofs.OneAnswer as hex_answers
use Rattle.i9_elf.specs.Files as elf
use Rattle.i9_elf.specs.declared.error.ElfError.{ElfError}
use Rattle.i9_elf.specs.declared.error.ElfError.TheVariants as elfs
use Rattle.i9_elf.specs.Reading as elf_reading
use Rattle.i9_elf.proofs.Answers as elf_answers
use Rattle.i9_elf.specs.declared.images.ImageError.{ImageError}
use Rattle.i9_elf.specs.Images.{HasMagic, IsImage, says_elf, says_hex, Fault, AtLine, OfElf, IsRefused, refused_elf, refused_hex}
use Rattle.i9_elf.specs.ImageReading.{fault_in, Reads, IfBad, from_hex, from_elf}

-- the clauses of the reader
pub record Answers (file : List ℕ) (r : Result (List Part) ImageError) : Type 0 where
  pub found : IfOk r (λ image. IsImage file (pairs_of image))
  pub only : (pairs : List (ℕ × ℕ)) → IsImage file pairs → Reads r (Ok pairs)
  pub refused : IfErr r (λ e. IfBad e (λ f. IsRefused file (fault_in f)))
  pub first : (fault : Fault) → IsRefused file fault → Reads r (Err fault)

-- ---- an ELF file

elf_only : (file : List ℕ) (r : Result (List Part) ElfError) (pairs : List (ℕ × ℕ)) → elf_reading.Reads r (Ok pairs) → Reads (from_elf r) (Ok pairs)
elf_only file r pairs h = grind arith

elf_first : (file : List ℕ) (r : Result (List Part) ElfError) (kind : ℕ) → elf_reading.Reads r (Err kind) → Reads (from_elf r) (Err (OfElf kind))
elf_first file r kind h = grind arith

elf_found : (file : List ℕ) (r : Result (List Part) ElfError) → IfOk r (λ image. elf.IsImage file (pairs_of image)) → IfOk (from_elf r) (λ image. IsImage file (pairs_of image))
elf_found file r h = grind arith

elf_refused : (file : List ℕ) (r : Result (List Part) ElfError) → HasMagic file → IfErr r (λ e. elf_reading.IfBad e (λ kind. elf.IsRefused file kind)) → IfErr (from_elf r) (λ e. IfBad e (λ f. IsRefused file (fault_in f)))
elf_refused file (Err (elfs.Bad kind)) begins h = refused_elf kind begins h
elf_refused file _ begins h = tt

pub by_elf : (file : List ℕ) (r : Result (List Part) ElfError) → HasMagic file → IfOk r (λ image. elf.IsImage file (pairs_of image))
    → ((pairs : List (ℕ × ℕ)) → elf.IsImage file pairs → elf_reading.Reads r (Ok pairs))
    → IfErr r (λ e. elf_reading.IfBad e (λ kind. elf.IsRefused file kind)) → ((kind : ℕ) → elf.IsRefused file kind → elf_reading.Reads r (Err kind)) → Answers file (from_elf r)
by_elf file r begins found only refused first = record {
  found = elf_found file r found;
  only = only_case;
  refused = elf_refused file r begins refused;
  first = first_case;
}
  where
    only_case : (pairs : List (ℕ × ℕ)) → IsImage file pairs → Reads (from_elf r) (Ok pairs)
    only_case pairs (says_elf image) = elf_only file r pairs (only pairs image)
    only_case pairs (says_hex other image) = absurd (other begins)

    first_case : (fault : Fault) → IsRefused file fault → Reads (from_elf r) (Err fault)
    first_case _ (refused_elf kind b bad) = elf_first file r kind (first kind bad)
    first_case _ (refused_hex fault other bad) = absurd (other begins)

-- ---- Intel HEX text

hex_only : (file : List ℕ) (r : Result (List Part) HexError) (pairs : List (ℕ × ℕ)) → hex_reading.Reads r (Ok pairs) → Reads (from_hex r) (Ok pairs)
hex_only file r pairs h = grind arith

hex_first : (file : List ℕ) (r : Result (List Part) HexError) (fault : ℕ × ℕ) → hex_reading.Reads r (Err fault) → Reads (from_hex r) (Err (AtLine fault))
hex_first file r fault h = grind arith

hex_found : (file : List ℕ) (r : Result (List Part) HexError) → ¬ HasMagic file → IfOk r (λ image. hex.IsImage (lines_of file) (pairs_of image)) → IfOk (from_hex r) (λ image. IsImage file (pairs_of image))
hex_found file r other h = grind arith

hex_refused : (file : List ℕ) (r : Result (List Part) HexError) → ¬ HasMagic file → IfErr r (λ e. hex_reading.IfBad e (λ f. hex.IsRefused (lines_of file) (hex_reading.place_of f))) → IfErr (from_hex r) (λ e. IfBad e (λ f. IsRefused file (fault_in f)))
hex_refused file (Err (hexes.Bad f)) other h = refused_hex (hex_reading.place_of f) other h
hex_refused file _ other h = tt

pub by_hex : (file : List ℕ) (r : Result (List Part) HexError) → ¬ HasMagic file → IfOk r (λ image. hex.IsImage (lines_of file) (pairs_of image))
    → ((pairs : List (ℕ × ℕ)) → hex.IsImage (lines_of file) pairs → hex_reading.Reads r (Ok pairs))
    → IfErr r (λ e. hex_reading.IfBad e (λ f. hex.IsRefused (lines_of file) (hex_reading.place_of f)))
    → ((fault : ℕ × ℕ) → hex.IsRefused (lines_of file) fault → hex_reading.Reads r (Err fault)) → Answers file (from_hex r)
by_hex file r other found only refused first = grind (arith, hex_found, hex_refused, hex_only, hex_first)

-- ---- each file has one answer

pub image_apart : (file : List ℕ) (pairs : List (ℕ × ℕ)) (fault : Fault) → IsImage file pairs → IsRefused file fault → ⊥
image_apart file pairs _ (says_elf image) (refused_elf kind b bad) = elf_answers.image_apart file pairs kind image bad
image_apart file pairs _ (says_elf image) (refused_hex fault other bad) = other image.begins
image_apart file pairs _ (says_hex other image) (refused_elf kind begins bad) = other begins
image_apart file pairs _ (says_hex other image) (refused_hex fault o bad) = hex_answers.image_apart file pairs fault image bad

pub one_image : (file : List ℕ) (ps qs : List (ℕ × ℕ)) → IsImage file ps → IsImage file qs → ps ≡ qs
one_image file ps qs (says_elf p) (says_elf q) = elf_answers.one_image file ps qs p q
one_image file ps qs (says_elf p) (says_hex other q) = absurd (other p.begins)
one_image file ps qs (says_hex other p) (says_elf q) = absurd (other q.begins)
one_image file ps qs (says_hex o p) (says_hex other q) = hex_answers.one_image file ps qs p q

pub one_fault : (file : List ℕ) (f g : Fault) → IsRefused file f → IsRefused file g → f ≡ g
one_fault file _ _ (refused_elf k b p) (refused_elf n c q) = ap OfElf (elf_answers.one_fault file k n p q)
one_fault file _ _ (refused_elf k begins p) (refused_hex g other q) = absurd (other begins)
one_fault file _ _ (refused_hex f other p) (refused_elf n begins q) = absurd (other begins)
one_fault file _ _ (refused_hex f o p) (refused_hex g other q) = ap AtLine (hex_answers.one_fault file f g p q)

some_by : (file : List ℕ) → HasMagic file ⊎ (¬ HasMagic file) → ((pairs : List (ℕ × ℕ)) × IsImage file pairs) ⊎ ((fault : Fault) × IsRefused file fault)
some_by file (inl begins) = elim (elf_answers.some_answer file begins) [
  | inl image ↦ inl (image.0, says_elf image.1)
  | inr bad ↦ inr (OfElf bad.0, refused_elf bad.0 begins bad.1)
]
some_by file (inr other) = elim (hex_answers.some_answer file) [
  | inl image ↦ inl (image.0, says_hex other image.1)
  | inr bad ↦ inr (AtLine bad.0, refused_hex bad.0 other bad.1)
]

-- whether a file begins so is known
begins_or_not : (xs ys : List ℕ) → (xs ≡ ys) ⊎ (¬ (xs ≡ ys))
begins_or_not xs ys = elim (cases_Bool (bytes_eq xs ys)) [
  | inl same ↦ inl ((bytes_eq-Decides xs ys).0 same)
  | inr other ↦ inr (λ same. absurd (cc ((bytes_eq-Decides xs ys).1 same, other)))
]

pub some_answer : (file : List ℕ) → ((pairs : List (ℕ × ℕ)) × IsImage file pairs) ⊎ ((fault : Fault) × IsRefused file fault)
some_answer file = some_by file (begins_or_not (take 4 file) elf.magic)
