-- What a source assembles to are bytes.
use Rattle.std.proofs.Common.{◌≡◌, ℕ, zero, suc, ◌+◌, ◌<◌, Bool, true, false, not, cond, eqb, List, [], ◌∷◌, ◌++◌, flat_map, Option, Some, None, refl, sym, subst, inl, inr, arith}
use Rattle.i9_asm.proofs.ReadListing.{low_take, low_drop}
use Rattle.std.specs.Prelude.{IfSome, codes}
use Rattle.std.specs.List.{AllByRecursion, list_all, position_or_len}
use Rattle.std.specs.Str.{bytes_eq}
use Rattle.std.specs.Int.{w32, to_le_bytes, byte_at}
use Rattle.std.proofs.lemmas.Bool.{and_parts, ltb-true, cases_Bool}
use Rattle.i9_text.specs.FirstFault.{SaysAll}
use Rattle.i9_text.specs.Text.{is_blank, is_in_word}
use Rattle.i9_model.specs.Image.{Part, upwards, pairs_of}
use Rattle.i9_hex.specs.Runs.{IsLow}
use Rattle.i9_statement.specs.declared.fault.Fault.TheVariants as fault
use Rattle.i9_statement.specs.Cut.{before, from}
use Rattle.i9_statement.specs.Values.{Names, value_of}
use Rattle.i9_statement.specs.Fields.{fields_of}
use Rattle.i9_asm.specs.Lines.{Item, Bad, Org, Space, Align, Set, Ascii, Instruction, quote, backslash, colon, dot, ends_head, one_value, two_values, some_values, directive_of, item_by, labelled, labelled_by, without_comment, code_len, code_of, item_of, label_of}
use Rattle.i9_asm.specs.declared.comments.Quote.TheVariants.{Outside}
use Rattle.i9_asm.specs.Strings.{small_n, zero_digit, escaped, if_blank, before_characters, characters, opened, string_of}
use Rattle.i9_asm.specs.Places.{Place, is_ascii, size_of, moved_to, past_line, all_names}
use Rattle.i9_asm.specs.Source.{Source, start_source, begun, grown, labelled_source, zeros, low_bytes, data_value, label_fault, fault_if, front_fault, rest_fault, line_fault, Gives, gives_nothing, gives_instruction, gives_data, gives_characters, gives_zeros, gives_move, gives_alignment, gives_assignment, Assembles}
use Rattle.i9_asm.specs.Laws.{IsAssembly}
use Rattle.i9_asm.proofs.TakenLines.{least_left}
use Rattle.i9_hex.specs.Put.{with_part}
use Rattle.i9_tool.specs.FileKinds.{AreBytes}

-- ---- lists of bytes

pub low_append : (xs ys : List ℕ) → IsLow xs → IsLow ys → IsLow (xs ++ ys)
low_append [] ys h k = k
low_append (x ∷ xs) ys h k = (h.0, low_append xs ys h.1 k)

low_each : {X : Type 0} (bytes : X → List ℕ) (xs : List X) → ((x : X) → IsLow (bytes x)) → IsLow (flat_map bytes xs)
low_each bytes [] h = tt
low_each bytes (x ∷ xs) h = low_append (bytes x) (flat_map bytes xs) (h x) (low_each bytes xs h)

low_byte : (i n : ℕ) → byte_at i n < 256
low_byte zero n = omega arith
low_byte (suc i) n = omega arith

low_word : (n : ℕ) → IsLow (to_le_bytes w32 n)
low_word n = (low_byte 0 n, (low_byte 1 n, (low_byte 2 n, (low_byte 3 n, tt))))

low_zeros : (n : ℕ) → IsLow (zeros n)
unfolding zeros
low_zeros zero = tt
low_zeros (suc n) = (omega arith, low_zeros n)

-- a text without a byte past ASCII
low_ascii : (line : List ℕ) → list_all is_ascii line ≡ true → IsLow line
low_ascii [] h = tt
low_ascii (b ∷ bs) h =
    let p = and_parts (is_ascii b) (list_all is_ascii bs) h in
    let small = ltb-true b 128 p.0 in
    (omega (arith, small), low_ascii bs p.1)

-- what both have, the one that is chosen has
chosen : {X : Type 0} (P : X → Type 0) (t : Bool) (x y : X) → P x → P y → P (cond t x y)
chosen P true x y h k = h
chosen P false x y h k = k

-- ---- strings

abbrev LowSome : Option (List ℕ) → Type 0
LowSome o = IfSome o IsLow

some_blank : (s : List ℕ) → LowSome (if_blank s)
some_blank [] = tt
some_blank (b ∷ s) = tt

some_before : (c : Option ℕ) (cs : Option (List ℕ)) → IfSome c (λ b. b < 256) → LowSome cs → LowSome (before_characters c cs)
some_before None cs h k = tt
some_before (Some c) None h k = tt
some_before (Some c) (Some cs) h k = (h, k)

abbrev LowByte : Option ℕ → Type 0
LowByte o = IfSome o (λ b. b < 256)

low_escaped : (b : ℕ) → LowByte (escaped b)
low_escaped b =
    chosen LowByte (eqb b small_n) (Some 10) _ (omega arith) (chosen LowByte (eqb b zero_digit) (Some 0) _ (omega arith)
    (chosen LowByte (eqb b quote) (Some quote) _ (omega arith)
    (chosen LowByte (eqb b backslash) (Some backslash) None (omega arith) tt)))

low_characters : (s : List ℕ) → IsLow s → LowSome (characters s)
unfolding characters
low_characters [] h = tt
low_characters (b ∷ []) h = chosen LowSome (eqb b quote) (Some []) None tt tt
low_characters (b ∷ c ∷ s) h =
    chosen LowSome (eqb b quote) _ _ (some_blank (from is_in_word (c ∷ s)))
    (chosen LowSome (eqb b backslash) _ _ (some_before (escaped c) (characters s) (low_escaped c) (low_characters s h.1.1))
    (some_before (Some b) (characters (c ∷ s)) h.0 (low_characters (c ∷ s) h.1)))

low_opened : (s : List ℕ) → IsLow s → LowSome (opened s)
low_opened [] h = tt
low_opened (b ∷ s) h = chosen LowSome (eqb b quote) (characters s) None (low_characters s h.1) tt

low_string : (s : List ℕ) → IsLow s → LowSome (string_of s)
unfolding string_of
low_string s h = low_opened (from is_in_word s) (low_drop (position_or_len is_in_word s) s h)

-- ---- what a line says

-- the text of a string is of bytes
abbrev LowItem : Item → Type 0
LowItem (Ascii s) = IsLow s
LowItem _ = Unit {0}

item_data : (width : ℕ) (fs : List (List ℕ)) → LowItem (some_values width fs)
item_data width [] = tt
item_data width (f ∷ fs) = tt

item_one : (item : List ℕ → Item) (fs : List (List ℕ)) → ((f : List ℕ) → LowItem (item f)) → LowItem (one_value item fs)
item_one item [] h = tt
item_one item (f ∷ []) h = h f
item_one item (f ∷ g ∷ fs) h = tt

item_two : (fs : List (List ℕ)) → LowItem (two_values Set fs)
item_two [] = tt
item_two (f ∷ []) = tt
item_two (f ∷ g ∷ []) = tt
item_two (f ∷ g ∷ k ∷ fs) = tt

item_directive : (name rest : List ℕ) → IsLow rest → LowItem (directive_of name rest)
item_directive name rest h =
    let fs = fields_of rest in
    let is = λ (word : List ℕ). bytes_eq name word in
    let one_of = chosen LowItem in
    one_of (is (codes ".word")) _ _ (item_data 4 fs) (one_of (is (codes ".short")) _ _ (item_data 2 fs)
    (one_of (is (codes ".byte")) _ _ (item_data 1 fs) (one_of (is (codes ".org")) _ _ (item_one Org fs (λ f. tt))
    (one_of (is (codes ".space")) _ _ (item_one Space fs (λ f. tt)) (one_of (is (codes ".align")) _ _ (item_one Align fs (λ f. tt))
    (one_of (is (codes ".set")) _ _ (item_two fs) (one_of (is (codes ".ascii")) (Ascii rest) (Bad fault.UnknownMnemonic) h tt)))))))

low_item : (s : List ℕ) → IsLow s → LowItem (item_by s)
low_item [] h = tt
low_item (b ∷ s) h =
    chosen LowItem (eqb b dot) (directive_of (before is_blank (b ∷ s)) (from is_blank (b ∷ s))) (Instruction (b ∷ s))
    (item_directive (before is_blank (b ∷ s)) (from is_blank (b ∷ s)) (low_drop (position_or_len is_blank (b ∷ s)) (b ∷ s) h)) tt

low_behind : (s head t : List ℕ) → IsLow s → IsLow t → IsLow (labelled_by s head t).rest
low_behind s head [] h k = h
low_behind s head (b ∷ t) h k = elim (cases_Bool (eqb b colon)) [
  | inl e ↦ rw e (low_drop (position_or_len is_in_word t) t k.1)
  | inr e ↦ rw e h
]

low_labelled : (s : List ℕ) → IsLow s → IsLow (labelled s).rest
unfolding labelled
low_labelled s h = low_behind s (before ends_head s) (from ends_head s) h (low_drop (position_or_len ends_head s) s h)

low_line : (line : List ℕ) → IsLow line → LowItem (item_of line)
unfolding item_of
low_line line h =
    let code = without_comment line in
    low_item (code_of line).rest
    (low_labelled (from is_in_word code) (low_drop (position_or_len is_in_word code) code (low_take (code_len Outside line) line h)))

-- ---- what it gives

low_given : (names : Names) (p : Place) (item : Item) (bs : List ℕ) → LowItem item → Gives names p item bs → IsLow bs
low_given names p _ _ low gives_nothing = tt
low_given names p _ _ low (gives_instruction s ws stands) = low_each (to_le_bytes w32) ws low_word
low_given names p _ _ low (gives_data width fs) =
    low_each (λ f. low_bytes width (data_value width (value_of names f)).value) fs (λ f. low_take width _ (low_word _))
low_given names p _ _ low (gives_characters s cs e) = subst LowSome e (low_string s low)
low_given names p _ _ low (gives_zeros f) = low_zeros (size_of p (Space f))
low_given names p _ _ low (gives_move f) = tt
low_given names p _ _ low (gives_alignment f) = tt
low_given names p _ _ low (gives_assignment name f) = tt

-- a line without fault has no byte past ASCII
ascii_by : (b : Bool) → fault_if (not b) fault.Form ≡ None → b ≡ true
ascii_by true h = refl
ascii_by false h = absurd cc

sound_ascii : (names : Names) (s : Source) (line : List ℕ) → line_fault names s line ≡ None → list_all is_ascii line ≡ true
unfolding line_fault
sound_ascii names s line h =
    let front = least_left (front_fault s.place line) (rest_fault names (labelled_source (label_of line) s) (item_of line)) h in
    ascii_by (list_all is_ascii line) (least_left (fault_if (not (list_all is_ascii line)) fault.Form) (label_fault (label_of line) s.place.known) front)

-- ---- a source

abbrev LowParts : List Part → Type 0
LowParts parts = AllByRecursion (λ part. IsLow part.bytes) parts

record LowSource (s : Source) : Type 0 where
  parts : LowParts s.segments
  bytes : IsLow s.bytes

low_more : (parts : List Part) (a : ℕ) (bs : List ℕ) → LowParts parts → IsLow bs → LowParts (with_part parts a bs)
low_more parts a [] h k = h
low_more parts a (b ∷ bs) h k = joined parts h
  where
    joined : (parts : List Part) → LowParts parts → LowParts (parts ++ record { address = a; bytes = b ∷ bs } ∷ [])
    joined [] h = (k, tt)
    joined (part ∷ parts) h = (h.0, joined parts h.1)

low_begun : (moved : Option ℕ) (s : Source) → LowSource s → LowSource (begun moved s)
low_begun None s h = h
low_begun (Some a) s h = record { parts = low_more s.segments s.address s.bytes h.parts h.bytes; bytes = tt }

low_grown : (s : Source) (p : Place) (size : ℕ) (bs : List ℕ) → LowSource s → IsLow bs → LowSource (grown s p size bs)
low_grown s p size bs h k = record { parts = h.parts; bytes = low_append s.bytes bs h.bytes k }

low_next : (names : Names) (s t : Source) (line : List ℕ) → LowSource s → Assembles names s line t → LowSource t
low_next names s t line h a =
    let u = labelled_source (label_of line) s in
    let labelled : LowSource u = record { parts = h.parts; bytes = h.bytes } in
    let moved = moved_to u.place (item_of line) in
    let low = low_line line (low_ascii line (sound_ascii names s line a.sound)) in
    subst LowSource (sym a.after)
    (low_grown (begun moved u) (past_line s.place line) (size_of u.place (item_of line)) a.bytes (low_begun moved u labelled) (low_given names u.place (item_of line) a.bytes low a.gives))

low_lines : (names : Names) (s t : Source) (lines : List (List ℕ)) → LowSource s → SaysAll (Assembles names) s lines t → LowSource t
low_lines names s t [] h same = subst LowSource same h
low_lines names s t (line ∷ lines) h said = low_lines names said.0 t lines (low_next names s said.0 line h said.1) said.2

-- ---- the pairs of segments

low_upwards : (a : ℕ) (bs : List ℕ) (ps : List (ℕ × ℕ)) → IsLow bs → AreBytes ps → AreBytes (upwards a bs ++ ps)
low_upwards a [] ps h k = k
low_upwards a (b ∷ bs) ps h k = (h.0, low_upwards (a + 1) bs ps h.1 k)

low_pairs : (parts : List Part) → LowParts parts → AreBytes (pairs_of parts)
unfolding pairs_of
low_pairs [] h = tt
low_pairs (part ∷ parts) h = low_upwards part.address part.bytes (pairs_of parts) h.0 (low_pairs parts h.1)

pub assembled_bytes : (lines : List (List ℕ)) (image : List Part) → IsAssembly lines image → AreBytes (pairs_of image)
assembled_bytes lines image assembly =
    let end = low_lines (all_names lines) start_source assembly.end lines (record { parts = tt; bytes = tt }) assembly.assembled in
    low_pairs image (subst LowParts assembly.kept (low_more assembly.end.segments assembly.end.address assembly.end.bytes end.parts end.bytes))
