-- What reading a file answers: the image that it says, or its first fault.
use Rattle.std.proofs.Common.{◌≡◌, ℕ, ◌+◌, ◌*◌, ◌<◌, ◌≤◌, ◌⊎◌, inl, inr, List, [], length, take, Option, Some, None, Result, Ok, Err, refl, ap, subst, ◌∙◌, arith, IfOk, IfErr}
use Rattle.i9_model.proofs.FrameLaws.{if_none}
use Rattle.std.proofs.lemmas.Bool.{ltb-false}
use Rattle.i9_model.specs.Image.{Part, pairs_of}
use Rattle.i9_elf.specs.Files.{magic, file_header_size, class_of, bits_32, order_of, low_first, type_of, executable, machine_of, i960, header_count, header_size_of, header_size, headers_place, loads_of, IsImage, fault_of_file, fault_of_load, IsRefused, at_file, at_load}
use Rattle.i9_elf.specs.declared.error.ElfError.{ElfError}
use Rattle.i9_elf.specs.Reading.{or_refused, load_all, answer_of, Reads, IfBad}
use Rattle.i9_elf.proofs.Loads.{refused_ok, and_some, FitAll, load_all-ok, ok-load_all, load_all-err, err-load_all}

-- ---- the file before its program headers are looked at

-- a file without fault
pub record Fine (file : List ℕ) : Type 0 where
  pub long : file_header_size ≤ length file
  pub class : class_of file ≡ bits_32
  pub order : order_of file ≡ low_first
  pub program : type_of file ≡ executable
  pub machine : machine_of file ≡ i960
  pub size : 0 < header_count file → header_size_of file ≡ header_size
  pub inside : 0 < header_count file → headers_place file + header_size * header_count file ≤ length file

pub fine_file : (file : List ℕ) → fault_of_file file ≡ None → Fine file
unfolding fault_of_file
fine_file file none = grind (arith, if_none, ltb-false, and_some)

no_fault : (file : List ℕ) → Fine file → fault_of_file file ≡ None
unfolding fault_of_file
no_fault file fine = grind arith

-- each header stands in the file
pub header_inside : (file : List ℕ) (place count index : ℕ) → fault_of_file file ≡ None → place ≡ headers_place file → count ≡ header_count file → index < count → place + header_size * index + header_size ≤ length file
header_inside file place count index none at many lt = let inside = (fine_file file none).inside (omega (arith, many)) in omega (arith, at, many, inside)

-- ---- the answer is what the definitions say

refused_err : {X : Type 0} (o : Option ℕ) (rest : Result X ℕ) (kind : ℕ) → or_refused o rest ≡ Err kind → (o ≡ Some kind) ⊎ ((o ≡ None) × (rest ≡ Err kind))
refused_err o rest kind e = grind arith

answer-image : (file : List ℕ) (pairs : List (ℕ × ℕ)) → take 4 file ≡ magic → answer_of file ≡ Ok pairs → IsImage file pairs
answer-image file pairs begins e =
    let both = refused_ok (fault_of_file file) _ pairs e in
    let fine = fine_file file both.0 in
    let fit = load_all-ok file 0 [] (loads_of file) pairs (omega arith) both.1 in
    record {
      begins = begins;
      long = fine.long;
      class = fine.class;
      order = fine.order;
      program = fine.program;
      machine = fine.machine;
      size = fine.size;
      inside = fine.inside;
      loads = fit.loads;
      room = omega (arith, fit.room);
      same = fit.same;
    }

image-answer : (file : List ℕ) (pairs : List (ℕ × ℕ)) → IsImage file pairs → answer_of file ≡ Ok pairs
image-answer file pairs i =
    let none = no_fault file (record { long = i.long; class = i.class; order = i.order; program = i.program; machine = i.machine; size = i.size; inside = i.inside }) in
    let fit : FitAll file 0 [] (loads_of file) pairs = record { loads = i.loads; room = omega (arith, i.room); same = i.same } in
    rw none (ok-load_all file 0 [] (loads_of file) pairs fit)

pub answer-refused : (file : List ℕ) (kind : ℕ) → answer_of file ≡ Err kind → IsRefused file kind
answer-refused file kind e = elim (refused_err (fault_of_file file) _ kind e) [
  | inl first ↦ at_file kind first
  | inr later ↦
      let s = load_all-err file 0 [] (loads_of file) kind (omega arith) later.1 in
      at_load s.front s.at s.back kind later.0 s.are s.loads (omega (arith, s.room)) (ap (λ (n : ℕ). fault_of_load file n s.at) (omega arith) ∙ s.fault)
]

refused-answer : (file : List ℕ) (kind : ℕ) → IsRefused file kind → answer_of file ≡ Err kind
refused-answer file _ (at_file kind fault) = rw fault refl
refused-answer file _ (at_load front h back kind none are loads room fault) =
    rw none (ap (load_all file 0 []) are ∙ err-load_all file 0 [] front h back kind loads (omega (arith, room)) (ap (λ (n : ℕ). fault_of_load file n h) (omega arith) ∙ fault))

-- where the file has a fault by itself, or none
pub answer-at_fault : (file : List ℕ) (kind : ℕ) → fault_of_file file ≡ Some kind → answer_of file ≡ Err kind
answer-at_fault file kind e = rw e refl

pub answer-at_loads : (file : List ℕ) → fault_of_file file ≡ None → answer_of file ≡ load_all file 0 [] (loads_of file)
answer-at_loads file e = rw e refl

-- ---- each file has one answer

some_by : (file : List ℕ) (r : Result (List (ℕ × ℕ)) ℕ) → take 4 file ≡ magic → answer_of file ≡ r → ((pairs : List (ℕ × ℕ)) × IsImage file pairs) ⊎ ((kind : ℕ) × IsRefused file kind)
some_by file (Ok pairs) begins e = inl (pairs, answer-image file pairs begins e)
some_by file (Err kind) begins e = inr (kind, answer-refused file kind e)

pub some_answer : (file : List ℕ) → take 4 file ≡ magic → ((pairs : List (ℕ × ℕ)) × IsImage file pairs) ⊎ ((kind : ℕ) × IsRefused file kind)
some_answer file begins = some_by file (answer_of file) begins refl

pub image_apart : (file : List ℕ) (pairs : List (ℕ × ℕ)) (kind : ℕ) → IsImage file pairs → IsRefused file kind → ⊥
image_apart file pairs kind image bad = let a = image-answer file pairs image in let b = refused-answer file kind bad in cc

pub one_image : (file : List ℕ) (ps qs : List (ℕ × ℕ)) → IsImage file ps → IsImage file qs → ps ≡ qs
one_image file ps qs p q = let a = image-answer file ps p in let b = image-answer file qs q in cc

pub one_fault : (file : List ℕ) (f g : ℕ) → IsRefused file f → IsRefused file g → f ≡ g
one_fault file f g p q = let a = refused-answer file f p in let b = refused-answer file g q in cc

-- ---- the clauses of the reader

pub found : (file : List ℕ) (r : Result (List Part) ElfError) → take 4 file ≡ magic → Reads r (answer_of file) → IfOk r (λ image. IsImage file (pairs_of image))
found file r begins h = grind (arith, answer-image)

pub only : (file : List ℕ) (r : Result (List Part) ElfError) → Reads r (answer_of file) → (pairs : List (ℕ × ℕ)) → IsImage file pairs → Reads r (Ok pairs)
only file r h pairs image = subst (λ (a : Result (List (ℕ × ℕ)) ℕ). Reads r a) (image-answer file pairs image) h

pub refused : (file : List ℕ) (r : Result (List Part) ElfError) → Reads r (answer_of file) → IfErr r (λ e. IfBad e (λ kind. IsRefused file kind))
refused file r h = grind (arith, answer-refused)

pub first : (file : List ℕ) (r : Result (List Part) ElfError) → Reads r (answer_of file) → (kind : ℕ) → IsRefused file kind → Reads r (Err kind)
first file r h kind bad = subst (λ (a : Result (List (ℕ × ℕ)) ℕ). Reads r a) (refused-answer file kind bad) h
