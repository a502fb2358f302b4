-- Each source has segments or a first line at fault.
use Rattle.std.proofs.Common.{◌≡◌, ℕ, ◌+◌, List, [], ◌∷◌, length, Option, Some, None, refl, ap, inl, inr, ◌⊎◌}
use Rattle.std.specs.List.{flat_map}
use Rattle.std.specs.Int.{w32, to_le_bytes}
use Rattle.std.specs.Option.{option_map}
use Rattle.i9_model.specs.Image.{Part}
use Rattle.i9_text.specs.FirstFault.{SaysAll, IsRefused, at_line, at_end}
use Rattle.i9_statement.specs.declared.fault.Fault.{Fault}
use Rattle.i9_statement.specs.Noted.{kind_of}
use Rattle.i9_statement.specs.Values.{Names, value_of}
use Rattle.i9_statement.proofs.SomeWords.{some_words}
use Rattle.i9_asm.specs.Lines.{Item, Empty, Org, Space, Align, Set, Data, Ascii, Instruction, item_of, label_of}
use Rattle.i9_asm.specs.Lines as items
use Rattle.i9_asm.specs.Strings.{string_of}
use Rattle.i9_asm.specs.Places.{Place, address_at, past_line, size_of, all_names}
use Rattle.i9_asm.specs.Source.{zeros, low_bytes, data_value, item_fault, line_fault, fault_of, labelled_source, past_source, start_source, segments_of, Source, Assembles, Gives, gives_nothing, gives_instruction, gives_data, gives_characters, gives_zeros, gives_move, gives_alignment, gives_assignment}
use Rattle.i9_asm.specs.Laws.{IsAssembly, IsRefusedSource, item_place}
use Rattle.i9_asm.proofs.TakenLines.{line_sound}

-- ---- a line

-- an item without fault gives bytes
some_bytes : (names : Names) (p : Place) (item : Item) → item_fault names p item ≡ None → (bs : List ℕ) × Gives names p item bs
some_bytes names p Empty h = ([], gives_nothing)
some_bytes names p (items.Bad k) h = absurd cc
some_bytes names p (Org f) h = ([], gives_move f)
some_bytes names p (Space f) h = (zeros (size_of p (Space f)), gives_zeros f)
some_bytes names p (Align f) h = ([], gives_alignment f)
some_bytes names p (Set name f) h = ([], gives_assignment name f)
some_bytes names p (Data width fs) h =
    (flat_map (λ f. low_bytes width (data_value width (value_of names f)).value) fs, gives_data width fs)
some_bytes names p (Ascii s) h = by_string (string_of s) refl
  where
    by_string : (o : Option (List ℕ)) → string_of s ≡ o → (bs : List ℕ) × Gives names p (Ascii s) bs
    by_string None e = absurd (cc (rw e at h))
    by_string (Some cs) e = (cs, gives_characters s cs e)
some_bytes names p (Instruction s) h =
    let words = some_words names (address_at p) s h in
    (flat_map (to_le_bytes w32) words.0, gives_instruction s words.0 words.1)

-- a line without fault leads to a source
some_source : (names : Names) (s : Source) (line : List ℕ) → line_fault names s line ≡ None → (t : Source) × Assembles names s line t
some_source names s line h =
    let given = some_bytes names (item_place s line) (item_of line) (line_sound names s line h).item in
    (past_source (labelled_source (label_of line) s) (past_line s.place line) (item_of line) given.0, record { bytes = given.0; sound = h; gives = given.1; after = refl })

-- ---- a source

-- what lines have behind a source
abbrev EndsOrFails : Names → Source → List (List ℕ) → Type 0
EndsOrFails names s lines =
    ((t : Source) × SaysAll (Assembles names) s lines t) ⊎ ((f : ℕ × ℕ) × IsRefused (Assembles names) (fault_of names) (λ _. None) s lines f)

-- a line before lines that are refused
refused_later : (names : Names) (s t : Source) (line : List ℕ) (lines : List (List ℕ)) (f : ℕ × ℕ) → Assembles names s line t
    → IsRefused (Assembles names) (fault_of names) (λ _. None) t lines f → (g : ℕ × ℕ) × IsRefused (Assembles names) (fault_of names) (λ _. None) s (line ∷ lines) g
refused_later names s t line _ _ a (at_line front bad back u kind all wrong) =
    ((length (line ∷ front) + 1, kind), at_line (line ∷ front) bad back u kind (t, a, all) wrong)
refused_later names s t line _ _ a (at_end lines u kind all wrong) = absurd cc

ends_or_fails : (names : Names) (s : Source) (lines : List (List ℕ)) → EndsOrFails names s lines
ends_or_fails names s [] = inl (s, refl)
ends_or_fails names s (line ∷ lines) = by_fault (line_fault names s line) refl (λ t. ends_or_fails names t lines)
  where
    before : (t : Source) → Assembles names s line t → EndsOrFails names t lines → EndsOrFails names s (line ∷ lines)
    before t a (inl end) = inl (end.0, (t, a, end.1))
    before t a (inr bad) = inr (refused_later names s t line lines bad.0 a bad.1)

    by_fault : (o : Option Fault) → line_fault names s line ≡ o → ((t : Source) → EndsOrFails names t lines) → EndsOrFails names s (line ∷ lines)
    by_fault None e later = let next = some_source names s line e in before next.0 next.1 (later next.0)
    by_fault (Some f) e later = inr ((1, kind_of f), at_line [] line lines s (kind_of f) refl (ap (option_map kind_of) e))

-- every source has an answer
pub some_answer : (lines : List (List ℕ)) → ((a : List Part) × IsAssembly lines a) ⊎ ((f : ℕ × ℕ) × IsRefusedSource lines f)
some_answer lines = elim (ends_or_fails (all_names lines) start_source lines) [
  | inl end ↦ inl (segments_of end.0, record { end = end.0; assembled = end.1; kept = refl })
  | inr bad ↦ inr bad
]
