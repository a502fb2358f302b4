-- One turn of the second pass, by the table that the first one leaves.
use Rattle.std.proofs.Common.{◌≡◌, ℕ, ◌+◌, ◌*◌, List, [], ◌∷◌, Option, Some, Bor, MatchOption, refl, sym, ap, subst, ◌∙◌, arith}
use Rattle.i9_text.specs.Text.{lines_of, lines_left}
use Rattle.i9_text.proofs.Loop.{lines_left-split}
use Rattle.i9_statement.specs.Values.{Names}
use Rattle.i9_statement.specs.Known.{values_of, values_before}
use Rattle.i9_asm.specs.declared.source.Source as code
use Rattle.i9_asm.specs.Lines.{label_of}
use Rattle.i9_asm.specs.Places.{Place, no_names, past_label, past_line, start_place, all_names}
use Rattle.i9_asm.specs.Source.{Source, start_source, labelled_source, fault_of, Assembles}
use Rattle.i9_asm.specs.Numbered.{Definitions, no_definitions, lines_entered}
use Rattle.i9_asm.specs.Reading.{source_at}
use Rattle.i9_asm.proofs.RelationLoop.{ReadSoFar, turn}
use Rattle.i9_asm.proofs.NumberedNames.{Tells, tells, told_all, nothing_early, place_same}

-- ---- a line

-- the source behind a label, by the names that are known there
pub labelled_here : (known behind : Names) (label : Option (List ℕ)) (s : code.Source) → behind ≡ (past_label label (source_at known s).place).known → source_at behind s ≡ labelled_source label (source_at known s)
labelled_here known behind label s is = grind arith

-- ---- all lines

table_tells : (all : Definitions) (lines : List (List ℕ)) → all ≡ lines_entered start_place 0 lines no_definitions → Tells all 0 start_place lines
table_tells all lines is = subst (λ (t : Definitions). Tells t 0 start_place lines) (sym is) (tells start_place 0 lines no_definitions (nothing_early 0) refl)

pub all_told : (all : Definitions) (lines : List (List ℕ)) → all ≡ lines_entered start_place 0 lines no_definitions → values_of all ≡ all_names lines
all_told all lines is = told_all all 0 start_place lines (table_tells all lines is)

-- lines were read, so many of them, and led to a source; the table tells the names that are known at those that are left
pub record StandsAt (all : Definitions) (number : ℕ) (source : code.Source) (left : Option (Bor (List ℕ))) (lines : List (List ℕ)) : Type 0 where
  pub place : Place
  pub location : place.location ≡ source.location
  pub tells : Tells all (2 * number) place (lines_left left)
  pub so_far : ReadSoFar (Assembles (values_of all)) (fault_of (values_of all)) start_source number (source_at place.known source) left lines

pub starts_at : (all : Definitions) (s : code.Source) (text : Bor (List ℕ)) → all ≡ lines_entered start_place 0 (lines_of text.now) no_definitions → source_at no_names s ≡ start_source
    → StandsAt all 0 s (Some text) (lines_of text.now)
starts_at all s text is start = record {
  place = start_place;
  location = sym (ap (λ (x : Source). x.place.location) start);
  tells = table_tells all (lines_of text.now) is;
  so_far = record { front = []; all = sym start; whole = refl; count = refl };
}

module _ (all : Definitions) (n : ℕ) (s : code.Source) (left : Option (Bor (List ℕ))) (text : Bor (List ℕ)) (line : List ℕ) (after : Option (Bor (List ℕ))) (lines : List (List ℕ)) (some : left ≡ Some text)
    (split : MatchOption after (lines_of text.now ≡ line ∷ []) (λ rest. lines_of text.now ≡ line ∷ lines_of rest.now)) (h : StandsAt all n s left lines) where
  told : Tells all (2 * n) h.place (line ∷ lines_left after)
  told = subst (λ (ls : List (List ℕ)). Tells all (2 * n) h.place ls) (ap lines_left some ∙ lines_left-split text.now line after split) h.tells

  pub known_here : values_before (2 * n) all ≡ h.place.known
  known_here = told.0

  place_here : (source_at h.place.known s).place ≡ h.place
  place_here = place_same (source_at h.place.known s).place h.place (sym h.location) refl

  pub known_behind : values_before (2 * n + 1) all ≡ (past_label (label_of line) (source_at (values_before (2 * n) all) s).place).known
  known_behind =
      told.1 ∙ ap (λ (p : Place). (past_label (label_of line) p).known) (sym place_here)
      ∙ ap (λ (known : Names). (past_label (label_of line) (source_at known s).place).known) (sym known_here)

  pub stands_on : (t : code.Source) → Assembles (values_of all) (source_at (values_before (2 * n) all) s) line (source_at (past_line (source_at (values_before (2 * n) all) s).place line).known t) → StandsAt all (n + 1) t after lines
  stands_on t a =
      let names = values_of all in
      let here = subst (λ (known : Names). Assembles names (source_at known s) line (source_at (past_line (source_at known s).place line).known t)) known_here a in
      let step : 2 * (n + 1) ≡ 2 * n + 2 = omega arith in
      record {
        place = past_line h.place line;
        location = ap (λ (p : Place). (past_line p line).location) (sym place_here) ∙ sym (ap (λ (x : Source). x.place.location) here.after);
        tells = subst (λ (k : ℕ). Tells all k (past_line h.place line) (lines_left after)) (sym step) told.2;
        so_far = turn (Assembles names) (fault_of names) start_source n (source_at h.place.known s) (source_at (past_line h.place line).known t) left text line after lines some split h.so_far
            (subst (λ (p : Place). Assembles names (source_at h.place.known s) line (source_at (past_line p line).known t)) place_here here);
      }
