-- A line without fault gives as many bytes as it counts.
use Rattle.std.proofs.Common.{◌≡◌, ℕ, zero, suc, ◌+◌, ◌*◌, ◌%◌, ◌^◌, ◌≤◌, true, List, [], ◌∷◌, length, length-append, Option, None, refl, sym, ap, ◌∙◌, arith}
use Rattle.i9_asm.proofs.NumberedNames.{label_stays}
use Rattle.std.specs.Prelude.{is_some}
use Rattle.std.specs.List.{list_all, flat_map}
use Rattle.std.specs.Int.{w32, to_le_bytes}
use Rattle.std.proofs.lemmas.List.{length-take-le}
use Rattle.i9_isa.specs.Words.{words_of}
use Rattle.i9_statement.specs.declared.values.Value.{Value}
use Rattle.i9_statement.specs.Values.{Names, value_of}
use Rattle.i9_statement.specs.Statements.{statement_of}
use Rattle.i9_statement.specs.Codes.{Stands}
use Rattle.i9_asm.specs.Lines.{Item, Space, Data, item_of, label_of}
use Rattle.i9_asm.specs.Places.{Place, no_names, address_at, location_count, past_line, size_of, string_size, moved_to, effect_of}
use Rattle.i9_asm.specs.Source.{zeros, low_bytes, data_value, data_fault, item_fault, line_fault, Source, Gives, gives_instruction, gives_data, gives_characters, gives_zeros}
use Rattle.i9_asm.specs.Laws.{item_place}
use Rattle.i9_asm.proofs.TakenLines.{least_left, least_right, effect_is_item, line_sound}
use Rattle.i9_asm.proofs.LaterNames.{Later, later_value, statement_counts}

-- ---- the widths of data

abbrev pub IsNarrow : Item → Type 0
IsNarrow (Data width fs) = width ≤ 4
IsNarrow _ = Unit {0}

-- ---- bytes of items

length-zeros : (n : ℕ) → length (zeros n) ≡ n
unfolding zeros
length-zeros zero = refl
length-zeros (suc n) = ap suc (length-zeros n)

stands_sound : (names : Names) (ip : ℕ) (s ws : List ℕ) → Stands names ip s ws → (statement_of ip names s).fault ≡ None
stands_sound names ip s ws h = grind arith

stands_length : (names : Names) (ip : ℕ) (s ws : List ℕ) → Stands names ip s ws → length (flat_map (to_le_bytes w32) ws) ≡ 4 * words_of (statement_of ip names s).value.inst
stands_length names ip s ws h = grind arith

-- a value without fault has the form of one before names have values
value_form : (width : ℕ) (a b : Option Value) → Later a b → (data_value width b).fault ≡ None → is_some a ≡ true
value_form width a b h h1 = grind arith

values_form : (width : ℕ) (names : Names) (fs : List (List ℕ)) → data_fault width names fs ≡ None → list_all (λ f. is_some (value_of no_names f)) fs ≡ true
values_form width names [] h = refl
values_form width names (f ∷ fs) h =
    let first = (data_value width (value_of names f)).fault in
    let sound : first ≡ None = least_left first (data_fault width names fs) h in
    rw (value_form width (value_of no_names f) (value_of names f) (later_value names f) sound)
    (values_form width names fs (least_right first (data_fault width names fs) sound h))

length-low_bytes : (width n : ℕ) → width ≤ 4 → length (low_bytes width n) ≡ width
length-low_bytes width n h = length-take-le width (to_le_bytes w32 n) h

length-values : (width : ℕ) (value : List ℕ → ℕ) (fs : List (List ℕ)) → width ≤ 4 → length (flat_map (λ f. low_bytes width (value f)) fs) ≡ width * length fs
length-values width value [] h = omega arith
length-values width value (f ∷ fs) h = grind (arith, length-append, length-low_bytes, length-values width value fs h)

data_counts : (width : ℕ) (names : Names) (p : Place) (fs : List (List ℕ)) → width ≤ 4 → data_fault width names fs ≡ None
    → length (flat_map (λ f. low_bytes width (data_value width (value_of names f)).value) fs) ≡ size_of p (Data width fs)
data_counts width names p fs h sound =
    length-values width (λ f. (data_value width (value_of names f)).value) fs h ∙ rw (values_form width names fs sound) refl

pub item_counts : (names : Names) (p : Place) (item : Item) (bs : List ℕ) → IsNarrow item → Gives names p item bs → item_fault names p item ≡ None → length bs ≡ size_of p item
item_counts names p _ _ narrow (gives_instruction s ws x) h =
    stands_length names (address_at p) s ws x ∙ sym (statement_counts (address_at p) names s (stands_sound names (address_at p) s ws x))
item_counts names p _ _ narrow (gives_data width fs) h = data_counts width names p fs narrow h
item_counts names p _ _ narrow (gives_characters s cs e) h = sym (ap string_size e)
item_counts names p _ _ narrow (gives_zeros f) h = length-zeros (size_of p (Space f))
item_counts names p _ _ narrow _ h = refl

-- ---- lines

pub line_counts : (names : Names) (s : Source) (line bs : List ℕ) → line_fault names s line ≡ None → Gives names (item_place s line) (item_of line) bs → length bs ≡ size_of (item_place s line) (item_of line)
unfolding item_of
line_counts names s line bs h gives = grind (arith, item_counts, line_sound)

-- and the first pass moves on by its bytes
pub line_moves : (names : Names) (s : Source) (line bs : List ℕ) → line_fault names s line ≡ None → Gives names (item_place s line) (item_of line) bs
    → moved_to (item_place s line) (item_of line) ≡ None → (past_line s.place line).location ≡ s.place.location + length bs
line_moves names s line bs h gives stays =
    let p = item_place s line in
    let item = item_of line in
    let sound = line_sound names s line h in
    let effect : effect_of line ≡ item = effect_is_item s.place line sound.front in
    let here : p.location ≡ s.place.location = label_stays (label_of line) s.place in
    let counts : length bs ≡ size_of p item = line_counts names s line bs h gives in
    let fits : p.location + size_of p item ≤ 2 ^ 32 = sound.room.inside in
    let next : (p.location + size_of p item) % location_count ≡ p.location + size_of p item = omega arith in
    cc
