-- A file of each kind is accepted or refused, not both, for one value or one fault.
use Rattle.std.proofs.Common.{◌≡◌, ℕ, suc, ◌%◌, ◌<◌, ◌⊎◌, List, [], ◌∷◌, get_or, refl, sym, ap, ◌∙◌, subst, arith}
use Rattle.i9_text.specs.Text.{lines_of}
use Rattle.i9_elf.specs.Images.{Fault, IsImage, IsRefused}
use Rattle.i9_elf.proofs.ImageAnswers.{some_answer as some_image, image_apart, one_image, one_fault as one_image_fault}
use Rattle.i9_schedule.proofs.OneAnswer.{some_answer as some_schedule, answers_apart, one_schedule, one_fault as one_schedule_fault}
use Rattle.i9_asm.proofs.SomeAnswer.{some_answer as some_assembly}
use Rattle.i9_asm.proofs.Once.{assembly_once, refusal_once, never_both_answers as assembly_apart}
use Rattle.i9_schedule.proofs.OneScript.{some_answer as some_script, one_script, one_fault as one_script_fault, never_both_answers as script_apart}
use Rattle.i9_tool.specs.declared.refusal.FileKind.{FileKind}
use Rattle.i9_tool.specs.declared.refusal.FileKind.TheVariants.{Image, Schedule, Source, Script}
use Rattle.i9_tool.specs.FileKinds.{Value, octets, Says, FaultOf, IsFaulty}

pub some_answer : (kind : FileKind) (file : List ℕ) → ((value : Value kind) × Says kind file value) ⊎ ((fault : FaultOf kind) × IsFaulty kind file fault)
some_answer Image file = some_image (octets file)
some_answer Schedule file = some_schedule file
some_answer Source file = some_assembly (lines_of file)
some_answer Script file = some_script (lines_of file)

pub apart : (kind : FileKind) (file : List ℕ) (value : Value kind) (fault : FaultOf kind) → Says kind file value → ¬ IsFaulty kind file fault
apart Image file value fault = image_apart (octets file) value fault
apart Schedule file value fault = answers_apart file value fault
apart Source file value fault = assembly_apart (lines_of file) value fault
apart Script file value fault = script_apart (lines_of file) value fault

pub one_value : (kind : FileKind) (file : List ℕ) (x y : Value kind) → Says kind file x → Says kind file y → x ≡ y
one_value Image file = one_image (octets file)
one_value Schedule file = one_schedule file
one_value Source file = assembly_once (lines_of file)
one_value Script file = one_script (lines_of file)

pub one_fault : (kind : FileKind) (file : List ℕ) (f g : FaultOf kind) → IsFaulty kind file f → IsFaulty kind file g → f ≡ g
one_fault Image file = one_image_fault (octets file)
one_fault Schedule file = one_schedule_fault file
one_fault Source file = refusal_once (lines_of file)
one_fault Script file = one_script_fault (lines_of file)

-- ---- a file of bytes

octets_same : (file : List ℕ) → ((k : ℕ) → get_or file k 0 < 256) → octets file ≡ file
octets_same [] low = refl
octets_same (n ∷ file) low =
    let first : n < 256 = low 0 in
    let same : n % 256 ≡ n = omega (arith, first) in
    ap (λ (b : ℕ). b ∷ octets file) same ∙ ap (λ (bs : List ℕ). n ∷ bs) (octets_same file (λ k. low (suc k)))

pub image_said : (file : List ℕ) (pairs : List (ℕ × ℕ)) → ((k : ℕ) → get_or file k 0 < 256) → IsImage file pairs → Says Image file pairs
image_said file pairs low is = subst (λ (bs : List ℕ). IsImage bs pairs) (sym (octets_same file low)) is

pub image_faulty : (file : List ℕ) (fault : Fault) → ((k : ℕ) → get_or file k 0 < 256) → IsRefused file fault → IsFaulty Image file fault
image_faulty file fault low is = subst (λ (bs : List ℕ). IsRefused bs fault) (sym (octets_same file low)) is
