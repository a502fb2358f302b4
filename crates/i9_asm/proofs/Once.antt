-- A line without fault leads to one source.
use Rattle.std.proofs.Common.{◌≡◌, ℕ, List, None, Result, Ok, Err, IfOk, IfErr, refl, sym, ap, ◌∙◌, arith}
use Rattle.std.specs.Option.{option_map}
use Rattle.i9_model.specs.Image.{Part}
use Rattle.i9_text.specs.FirstFault.{SaysAll, IsRefused}
use Rattle.i9_text.proofs.FirstFaultOnce.{all_once, refused_once, never_both}
use Rattle.i9_statement.specs.Noted.{kind_of}
use Rattle.i9_statement.specs.Values.{Names}
use Rattle.i9_statement.proofs.StatementWords.{stands_once}
use Rattle.i9_asm.specs.Lines.{Item}
use Rattle.i9_asm.specs.Places.{Place, all_names}
use Rattle.i9_asm.specs.Source.{Gives, gives_nothing, gives_instruction, gives_data, gives_characters, gives_zeros, gives_move, gives_alignment, gives_assignment, Source, fault_of, Assembles, start_source, segments_of}
use Rattle.i9_asm.specs.Laws.{IsAssembly, IsRefusedSource}
use Rattle.i9_asm.specs.declared.error.AsmError.{AsmError}
use Rattle.i9_asm.specs.declared.error.AsmError.TheVariants.{Bad, Memory}
use Rattle.i9_asm.specs.Reading.{fault_place, Answers, IfBad}

-- an item gives one list of bytes
pub gives_once : (names : Names) (p : Place) (item : Item) (bs cs : List ℕ) → Gives names p item bs → Gives names p item cs → bs ≡ cs
gives_once names p _ _ _ gives_nothing gives_nothing = refl
gives_once names p _ _ _ (gives_instruction s ws x) (gives_instruction _ vs y) = grind (arith, stands_once)
gives_once names p _ _ _ (gives_data width fs) (gives_data _ _) = refl
gives_once names p _ _ _ (gives_characters s bs x) (gives_characters _ cs y) = cc
gives_once names p _ _ _ (gives_zeros f) (gives_zeros _) = refl
gives_once names p _ _ _ (gives_move f) (gives_move _) = refl
gives_once names p _ _ _ (gives_alignment f) (gives_alignment _) = refl
gives_once names p _ _ _ (gives_assignment name f) (gives_assignment _ _) = refl

pub assembles_once : (names : Names) (s : Source) (line : List ℕ) (t u : Source) → Assembles names s line t → Assembles names s line u → t ≡ u
assembles_once names s line t u x y = grind (arith, gives_once)

-- ---- whole sources

no_fault : (names : Names) (s : Source) (line : List ℕ) (t : Source) → Assembles names s line t → fault_of names s line ≡ None
no_fault names s line t a = ap (option_map kind_of) a.sound

-- one source, or one first fault, and not both
pub sources_once : (names : Names) (s t u : Source) (lines : List (List ℕ)) → SaysAll (Assembles names) s lines t → SaysAll (Assembles names) s lines u → t ≡ u
sources_once names s t u lines x y = all_once (Assembles names) (fault_of names) (assembles_once names) (no_fault names) s t u lines x y

pub refusals_once : (names : Names) (s : Source) (lines : List (List ℕ)) (f g : ℕ × ℕ) → IsRefused (Assembles names) (fault_of names) (λ _. None) s lines f → IsRefused (Assembles names) (fault_of names) (λ _. None) s lines g → f ≡ g
refusals_once names s lines f g x y = refused_once (Assembles names) (fault_of names) (assembles_once names) (no_fault names) s lines f g x y

pub source_or_refusal : (names : Names) (s t : Source) (lines : List (List ℕ)) (f : ℕ × ℕ) → IsRefused (Assembles names) (fault_of names) (λ _. None) s lines f → SaysAll (Assembles names) s lines t → ⊥
source_or_refusal names s t lines f x y = never_both (Assembles names) (fault_of names) (assembles_once names) (no_fault names) s t lines f x y

-- ---- answers

pub assembly_once : (lines : List (List ℕ)) (a b : List Part) → IsAssembly lines a → IsAssembly lines b → a ≡ b
assembly_once lines a b x y = sym x.kept ∙ ap segments_of (sources_once (all_names lines) start_source x.end y.end lines x.assembled y.assembled) ∙ y.kept

pub refusal_once : (lines : List (List ℕ)) (f g : ℕ × ℕ) → IsRefusedSource lines f → IsRefusedSource lines g → f ≡ g
refusal_once lines f g x y = refusals_once (all_names lines) start_source lines f g x y

pub never_both_answers : (lines : List (List ℕ)) (a : List Part) (f : ℕ × ℕ) → IsAssembly lines a → IsRefusedSource lines f → ⊥
never_both_answers lines a f x y = source_or_refusal (all_names lines) start_source x.end lines f y x.assembled

-- what a result says of the lines, it says of each answer
module _ (lines : List (List ℕ)) where
  pub only_answer : (r : Result (List Part) AsmError) → IfOk r (λ a. IsAssembly lines a) → IfErr r (λ e. IfBad e (λ f. IsRefusedSource lines (fault_place f))) → (a : List Part) → IsAssembly lines a → Answers r (Ok a)
  only_answer (Ok b) found refused a h = ap Ok (assembly_once lines a b h found)
  only_answer (Err Memory) found refused a h = tt
  only_answer (Err (Bad f)) found refused a h = absurd (never_both_answers lines a (fault_place f) h refused)

  pub first_answer : (r : Result (List Part) AsmError) → IfOk r (λ a. IsAssembly lines a) → IfErr r (λ e. IfBad e (λ f. IsRefusedSource lines (fault_place f))) → (f : ℕ × ℕ) → IsRefusedSource lines f → Answers r (Err f)
  first_answer (Ok b) found refused f h = absurd (never_both_answers lines b f found h)
  first_answer (Err Memory) found refused f h = tt
  first_answer (Err (Bad g)) found refused f h = ap Err (refusal_once lines f (fault_place g) h refused)
