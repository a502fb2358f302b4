-- Lines none of which has a fault are a source that assembles; that none has one is a test that computes.
use Rattle.std.proofs.Common.{◌≡◌, ℕ, ◌+◌, Bool, true, not, ◌&&◌, List, [], ◌∷◌, ◌++◌, Option, None, refl, sym, ap, ◌∙◌, inl, inr, arith}
use Rattle.std.specs.Prelude.{is_some}
use Rattle.std.specs.Option.{option_map}
use Rattle.std.proofs.lemmas.Bool.{and_parts}
use Rattle.i9_model.specs.Image.{Part}
use Rattle.i9_text.specs.FirstFault.{SaysAll, IsRefused, at_line, at_end}
use Rattle.i9_statement.specs.declared.fault.Fault.{Fault}
use Rattle.i9_statement.specs.Noted.{kind_of}
use Rattle.i9_statement.specs.Values.{Names}
use Rattle.i9_asm.specs.Lines.{item_of, label_of}
use Rattle.i9_asm.specs.Places.{Place, start_place, past_label, past_line, past_lines, size_of, all_names}
use Rattle.i9_asm.specs.Source.{Source, start_source, line_fault, fault_of, Assembles}
use Rattle.i9_asm.specs.Laws.{IsAssembly}
use Rattle.i9_asm.proofs.SomeAnswer.{some_answer}

-- a source at a place, with so many bytes counted
abbrev pub standing : Place → ℕ → Source
standing p n = record { place = p; segments = []; address = 0; bytes = []; total = n }

-- how many bytes are counted behind a line
abbrev pub counted : Place → ℕ → List ℕ → ℕ
counted p n line = n + size_of (past_label (label_of line) p) (item_of line)

-- no line from a place and a count on has a fault
unfoldable pub are_sound : Names → Place → ℕ → List (List ℕ) → Bool
are_sound names p n [] = true
are_sound names p n (line ∷ lines) =
    not (is_some (line_fault names (standing p n) line)) && are_sound names (past_line p line) (counted p n line) lines

-- a line without fault, with the place and the count behind it
pub record Passes (names : Names) (p : Place) (n : ℕ) (line : List ℕ) (q : Place) (m : ℕ) : Type 0 where
  pub sound : line_fault names (standing p n) line ≡ None
  pub past : past_line p line ≡ q
  pub count : counted p n line ≡ m

pub passes : (names : Names) (p : Place) (n : ℕ) (line : List ℕ) (q : Place) (m : ℕ) (lines : List (List ℕ)) → Passes names p n line q m
    → (are_sound names p n (line ∷ lines) ≡ are_sound names q m lines) × (past_lines p (line ∷ lines) ≡ past_lines q lines)
unfolding are_sound past_lines
passes names p n line q m lines h = rw (h.sound, h.past, h.count) (refl, refl)

-- ---- such lines are not refused

none_by : (o : Option Fault) → not (is_some o) ≡ true → o ≡ None
none_by o h = grind arith

-- faults go by the place and the count alone
first_sound : (names : Names) (s : Source) (line : List ℕ) (lines : List (List ℕ))
    → are_sound names s.place s.total (line ∷ lines) ≡ true → line_fault names s line ≡ None
unfolding are_sound line_fault
first_sound names s line lines h = grind (arith, none_by, and_parts)

rest_sound : (names : Names) (s t : Source) (line : List ℕ) (lines : List (List ℕ))
    → Assembles names s line t → are_sound names s.place s.total (line ∷ lines) ≡ true → are_sound names t.place t.total lines ≡ true
unfolding are_sound
rest_sound names s t line lines a h = grind arith

line_sound : (names : Names) (r s : Source) (front : List (List ℕ)) (line : List ℕ) (back : List (List ℕ))
    → are_sound names r.place r.total (front ++ line ∷ back) ≡ true → SaysAll (Assembles names) r front s → line_fault names s line ≡ None
line_sound names r s [] line back h says = ap (λ x. line_fault names x line) (sym says) ∙ first_sound names r line back h
line_sound names r s (first ∷ front) line back h says =
    line_sound names says.0 s front line back (rest_sound names r says.0 first (front ++ line ∷ back) says.1 h) says.2

-- lines without fault are not refused
not_refused : (names : Names) (lines : List (List ℕ)) (f : ℕ × ℕ) → are_sound names start_place 0 lines ≡ true
    → IsRefused (Assembles names) (fault_of names) (λ _. None) start_source lines f → ⊥
not_refused names _ _ h (at_line front line back s kind says wrong) =
    absurd (cc (sym (ap (option_map kind_of) (line_sound names start_source s front line back h says)) ∙ wrong))
not_refused names _ _ h (at_end lines s kind says wrong) = absurd cc

pub sound_assembles : (lines : List (List ℕ)) → are_sound (all_names lines) start_place 0 lines ≡ true
    → (image : List Part) × IsAssembly lines image
sound_assembles lines h = elim (some_answer lines) [
  | inl found ↦ found
  | inr refused ↦ absurd (not_refused (all_names lines) lines refused.0 h refused.1)
]
