-- A made source assembles without a fault.
use Rattle.std.proofs.Common.{◌≡◌, ℕ, ◌+◌, ◌%◌, ◌^◌, ◌<◌, ◌≤◌, Bool, true, false, ltb, List, ◌∷◌, ◌++◌, None, refl, sym, ap, subst, ◌∙◌, arith}
use Rattle.std.specs.Prelude.{codes, Some, if◌then◌else◌}
use Rattle.i9_text.specs.Text.{lines_of, number_of}
use Rattle.i9_statement.specs.Cut.{closed}
use Rattle.i9_statement.specs.Registers.{register_place}
use Rattle.i9_statement.specs.Values.{Names, is_name, decimal_of, magnitude, value_of}
use Rattle.i9_statement.specs.Addresses.{base_of, index_of, address_behind, address_of}
use Rattle.i9_statement.specs.Fields.{fields_of}
use Rattle.i9_statement.specs.Instructions.{instruction_of}
use Rattle.i9_statement.specs.Mnemonics.{mnemonic, op_named, named_by}
use Rattle.i9_statement.specs.Operands.{operand_of}
use Rattle.i9_statement.specs.Statements.{spare_of, statement_of}
use Rattle.i9_statement.specs.Targets.{target_of}
use Rattle.i9_asm.specs.Lines.{code_len, labelled, item_of}
use Rattle.i9_asm.specs.Places.{Place, no_names, define, start_place, past_label, past_lines, all_names}
use Rattle.i9_asm.specs.Source.{line_fault}
use Rattle.i9_asm.specs.Laws.{IsAssembly, IsRefusedSource}
use Rattle.i9_asm.proofs.Once.{never_both_answers}
use Rattle.i9_generator.specs.Generator.{drawn, rounds_of, start_of, depth_of, tables_text, set_up_text, calls_text, generated_source}
use Rattle.i9_generator.specs.Accepted.{HasAssembly}
use Rattle.i9_generator.proofs.SoundLines.{are_sound, passes, sound_assembles}
use Rattle.i9_generator.proofs.LoadLines.{load_size, IsTarget, Loads, unlabelled_load, labelled_load, further, load_passes}
use Rattle.i9_generator.proofs.MadeText.{front_lines, rounds_line, start_line, depth_line, back_lines, later_lines, made_lines, made_text}

-- where the lines begin that go by the number, and how many bytes stand before them
abbrev number_place : Place
number_place = record { location = 4132; known = no_names }

abbrev number_count : ℕ
number_count = 124

-- how many bytes the second of them has, by whether its number takes one word
abbrev size_by : Bool → ℕ
size_by short = if short then 4 else 8

-- behind them, where the second has so many bytes
abbrev place_behind : ℕ → Place
place_behind size =
    let loop = number_place.location + 4 + size in record { location = loop + 4; known = define (codes "loop") (loop % 2 ^ 32) no_names }

abbrev count_behind : ℕ → ℕ
count_behind size = number_count + 4 + size + 4

-- ---- the constant lines, by computation

-- the names of a source whose line has so many bytes
known_names : ℕ → Names
known_names size = (past_lines (place_behind size) back_lines).known

-- the lines before lead on, and those behind have no fault
record Constant (names : Names) (size : ℕ) : Type 0 where
  front : (rest : List (List ℕ))
      → are_sound names start_place 0 (front_lines ++ rest) ≡ are_sound names number_place number_count rest
  past : (rest : List (List ℕ)) → past_lines start_place (front_lines ++ rest) ≡ past_lines number_place rest
  back : are_sound names (place_behind size) (count_behind size) back_lines ≡ true

constant : (short : Bool) → Constant (known_names (size_by short)) (size_by short)
unfolding known_names back_lines calls_text past_lines are_sound line_fault front_lines tables_text set_up_text
    code_len labelled item_of is_name decimal_of magnitude value_of number_of register_place fields_of closed spare_of
    statement_of named_by op_named mnemonic instruction_of operand_of target_of address_of address_behind base_of index_of
constant true = record { front = λ rest. refl; past = λ rest. refl; back = refl }
constant false = record { front = λ rest. refl; past = λ rest. refl; back = refl }

-- ---- the lines that go by the number

-- the registers
targets : IsTarget (codes "g6") × IsTarget (codes "g7") × IsTarget (codes "g0")
unfolding operand_of register_place
targets = (
  record { field = record { bytes = refl; some = refl }; read = λ names. refl },
  record { field = record { bytes = refl; some = refl }; read = λ names. refl },
  record { field = record { bytes = refl; some = refl }; read = λ names. refl },
)

-- a number below 4096 takes one word
short_size : (n : ℕ) → n < 4096 → load_size n ≡ 4
short_size n h = grind arith

-- the three lines have no fault, and lead on
record Lead (names : Names) (rounds start depth size : ℕ) : Type 0 where
  sound : are_sound names number_place number_count (later_lines rounds start depth) ≡ are_sound names (place_behind size) (count_behind size) back_lines
  past : past_lines number_place (later_lines rounds start depth) ≡ past_lines (place_behind size) back_lines

loads_lead : (names : Names) (rounds start depth size : ℕ) → rounds < 4096 → start < 2 ^ 32 → depth < 4096
    → load_size start ≡ size → size ≤ 8 → Lead names rounds start depth size
unfolding is_name register_place
loads_lead names rounds start depth size rounds_small start_small depth_small is low =
    let r = rounds_line rounds in
    let s = start_line start in
    let d = depth_line depth in
    let label = Some (codes "loop") in
    let r_load = subst (Loads r None) (short_size rounds rounds_small) (unlabelled_load rounds (codes "g6") (omega arith) targets.0) in
    let s_load = subst (Loads s None) is (unlabelled_load start (codes "g7") start_small targets.1) in
    let d_load = subst (Loads d label) (short_size depth depth_small) (labelled_load depth (codes "g0") (omega arith) targets.2) in
    let p = further 4 number_place in
    let q = further size p in
    let m = number_count + 4 in
    let n = m + size in
    let end = place_behind size in
    let r_pass = load_passes names number_place number_place r None number_count 4 r_load refl refl refl (omega arith) (omega arith) in
    let s_pass = load_passes names p p s None m size s_load refl refl refl (omega arith) (omega arith) in
    let d_pass = load_passes names q (past_label label q) d label n 4 d_load refl refl refl (omega arith) (omega arith) in
    let first = passes names number_place number_count r p m (s ∷ d ∷ back_lines) r_pass in
    let second = passes names p m s q n (d ∷ back_lines) s_pass in
    let third = passes names q n d end (n + 4) back_lines d_pass in
    record { sound = first.0 ∙ second.0 ∙ third.0; past = first.1 ∙ second.1 ∙ third.1 }

-- ---- the whole

size_is : (n : ℕ) (short : Bool) → ltb n 4096 ≡ short → (load_size n ≡ size_by short) × (size_by short ≤ 8)
size_is n short h = grind arith

start_small : (number : ℕ) → start_of number < 2 ^ 32
unfolding drawn
start_small number = omega arith

number_lead : (number : ℕ) (short : Bool) → ltb (start_of number) 4096 ≡ short
    → Lead (known_names (size_by short)) (rounds_of number) (start_of number) (depth_of number) (size_by short)
number_lead number short h =
    let size = size_is (start_of number) short h in
    loads_lead _ (rounds_of number) _ (depth_of number) _ (omega arith) (start_small number) (omega arith) size.0 size.1

made_sound : (number : ℕ) → are_sound (all_names (made_lines number)) start_place 0 (made_lines number) ≡ true
unfolding known_names
made_sound number =
    let short = ltb (start_of number) 4096 in
    let later = later_lines (rounds_of number) (start_of number) (depth_of number) in
    let lead = number_lead number short refl in
    let names : all_names (made_lines number) ≡ known_names (size_by short) = ap (λ (p : Place). p.known) ((constant short).past later ∙ lead.past) in
    cc ((constant short).front later, (constant short).back)

-- a made source assembles
pub made_source : (number : ℕ) → HasAssembly number
made_source number =
    let found = sound_assembles (made_lines number) (made_sound number) in
    record { image = found.0; assembled = subst (λ lines. IsAssembly lines found.0) (sym (made_text number)) found.1 }

-- so it is not refused
pub source_not_refused : (number : ℕ) (fault : ℕ × ℕ) → IsRefusedSource (lines_of (generated_source number)) fault → ⊥
source_not_refused number fault refused =
    let made = made_source number in
    never_both_answers (lines_of (generated_source number)) made.image fault made.assembled refused
