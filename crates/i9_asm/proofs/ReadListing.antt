-- The lines of a listing assemble to the bytes that they were made of.
use Rattle.std.proofs.Common.{◌≡◌, ℕ, zero, suc, ◌+◌, ◌*◌, ◌%◌, ◌^◌, ◌<◌, ◌≤◌, true, false, ltb, List, [], ◌∷◌, ◌++◌, length, take, drop, get_or, Some, None, Result, Ok, Err, refl, sym, ap, subst, ◌∙◌, arith, append_assoc, add-zero, inl, inr}
use Rattle.std.specs.Prelude.{codes}
use Rattle.std.specs.List.{list_all, flat_map, AllByRecursion}
use Rattle.std.specs.Int.{w32, to_le_bytes}
use Rattle.std.specs.Int.Bits.{bit_and}
use Rattle.std.proofs.lemmas.Bool.{lt-ltb, le-ltb, ltb-false, cases_Bool, or_parts}
use Rattle.std.proofs.lemmas.List.{append-nil, length-take-le, length-drop, length-append, take-append-drop}
use Rattle.i9_text.specs.FirstFault.{SaysAll}
use Rattle.i9_text.proofs.FirstFaultOnce.{SaysAll-append}
use Rattle.std.proofs.lemmas.Bool.Decides.{nat_tests}
use Rattle.std.proofs.lemmas.Nat.{and_le_l, le_bytes_4}
use Rattle.i9_isa.specs.declared.inst.Inst.{Inst}
use Rattle.i9_isa.specs.declared.inst.BadWord.{BadWord}
use Rattle.i9_isa.specs.Words.{words_of, decoded}
use Rattle.i9_isa.proofs.Decoding.{decoded_encodes}
use Rattle.i9_decode.specs.Ignored.{ignored_bits}
use Rattle.i9_decode.proofs.ValidWords.{encodes_valid}
use Rattle.i9_text.specs.Text.{space, lines_of}
use Rattle.i9_text.specs.Written.{word_text}
use Rattle.i9_statement.specs.declared.values.Value.TheVariants.{Number}
use Rattle.i9_statement.specs.Values.{Names, value_of, settled}
use Rattle.i9_statement.specs.NumberText.{hex_text, hex_byte_text}
use Rattle.i9_model.specs.Image.{Part}
use Rattle.i9_hex.specs.Put.{with_part}
use Rattle.i9_statement.specs.Statements.{statement_of, statement_text}
use Rattle.i9_asm.specs.Lines.{Item, Empty, Org, Data, Instruction, Says, item_of, labelled, code_len}
use Rattle.i9_statement.specs.Codes.{Stands, taken}
use Rattle.i9_asm.specs.Places.{is_ascii, all_names, no_names, if_fine, Place, address_at, location_count, statement_size, size_of, moved_to, assigned}
use Rattle.i9_asm.specs.Source.{start_source, segments_of, Gives, gives_nothing, gives_instruction, gives_data, gives_move, item_fault, Source, most_bytes, line_fault, Assembles, fits_width, low_bytes, past_bytes, HasRoom, AddsBytes}
use Rattle.i9_asm.specs.Listing.{text_by, text_of, printed_words, printed_bytes, word_at, whole_size, is_single, line_size, whole_text, said_text, noted_words, first_line, Lists, lists_none, lists_line, org_line, ListsAll, lists_all, lists_run}
use Rattle.i9_hex.proofs.Each.{all_append as all_lists, all_take, all_drop}
use Rattle.i9_hex.specs.Runs.{IsLow, IsRun, bytes_in}
use Rattle.i9_asm.specs.Laws.{IsAssembly}
use Rattle.i9_statement.proofs.Cutting.{all_by, all_append}
use Rattle.i9_text.proofs.WrittenLines.{is_plain, ascii-plain, plain-append, plain-word_text, plain-byte_text, IsPlain, lines_of-written}
use Rattle.i9_hex.specs.Writing.{with_line_feed}
use Rattle.i9_statement.proofs.ReadValues.{value_of-hex, value_of-hex_byte}
use Rattle.i9_statement.proofs.Classes.{IsField, hex_field, hex_byte_field}
use Rattle.i9_statement.proofs.ReadFields.{pad}
use Rattle.i9_statement.proofs.ReadStatements.{statement_of-text}
use Rattle.i9_statement.proofs.StatementBytes.{is_statement_byte, statement_bytes, operand_statement}
use Rattle.i9_statement.proofs.StatementWords.{and_again, statement_stands}
use Rattle.i9_asm.proofs.ReadLines.{Tail, NoTail, Comment, tail_text, leaves, says_statement, says_word, says_byte, says_org}

-- ---- one line

statement_plain : (w : List ℕ) → list_all is_statement_byte w ≡ true → is_plain w ≡ true
statement_plain w h = grind (arith, all_by, nat_tests)

-- a line that says an item which gives bytes and no more
record LineSays (names : Names) (p : Place) (line bs : List ℕ) : Type 0 where
  item : Item
  says : Says line item
  clean : is_plain line ≡ true
  gives : Gives names p item bs
  sound : item_fault names p item ≡ None
  size : size_of p item ≡ length bs
  stays : moved_to p item ≡ None
  known : assigned p item ≡ p.known

said_assembles : (names : Names) (s : Source) (line bs : List ℕ) → LineSays names s.place line bs → HasRoom s (length bs) → Assembles names s line (past_bytes s bs)
unfolding line_fault
said_assembles names s line bs said room =
    let ascii : list_all is_ascii line ≡ true = ascii-plain line said.clean in
    let inside : ltb (2 ^ 32) (s.place.location + length bs) ≡ false = le-ltb _ _ room.inside in
    let few : ltb most_bytes (s.total + length bs) ≡ false = le-ltb _ _ room.few in
    let next : (s.place.location + length bs) % location_count ≡ s.place.location + length bs = omega (arith, room.inside) in
    record {
      bytes = bs;
      sound = rw (ascii, said.says.label, said.says.item, said.sound, said.size, inside, few) refl;
      gives = rw (said.says.label, said.says.item) said.gives;
      after = rw (said.says.label, said.says.item, ascii, said.stays, said.size, said.known, next) refl;
    }

-- ---- the lines of a run

-- a number of so many bytes
data_line : (names : Names) (p : Place) (line : List ℕ) (width n : ℕ) (f bs : List ℕ) → Says line (Data width (f ∷ [])) → is_plain line ≡ true
    → ((ns : Names) → value_of ns f ≡ Some (Number n)) → fits_width width n ≡ true → low_bytes width n ≡ bs → length bs ≡ width → LineSays names p line bs
data_line names p line width n f bs says clean read fits is size = record {
  item = Data width (f ∷ []);
  says = says;
  clean = clean;
  gives = subst (Gives names p (Data width (f ∷ []))) (rw (read names) (rw fits (append-nil (low_bytes width n) ∙ is))) (gives_data width (f ∷ []));
  sound = rw (read names) (rw fits refl);
  size = rw (read no_names) (omega (arith, size));
  stays = refl;
  known = refl;
}

-- a line with a directive is plain, where its tail is
directive_plain : (d f : List ℕ) (t : Tail) → list_all is_statement_byte d ≡ true → IsField f → is_plain (tail_text t) ≡ true → is_plain ((d ++ f) ++ tail_text t) ≡ true
directive_plain d f t bytes field clean = grind (arith, plain-append, statement_plain, all_append, operand_statement)

-- so many bytes have the words of an instruction
taken_length : (i : Inst) (w0 w1 : ℕ) → 4 * words_of i ≡ length (flat_map (to_le_bytes w32) (taken w0 w1 i))
taken_length i w0 w1 = grind arith

-- ---- bytes of a run

low_at : (bs : List ℕ) → IsLow bs → (i : ℕ) → get_or bs i 0 < 256
low_at [] h i = omega arith
low_at (b ∷ bs) h zero = h.0
low_at (b ∷ bs) h (suc i) = low_at bs h.1 i

pub low_take : (n : ℕ) (bs : List ℕ) → IsLow bs → IsLow (take n bs)
low_take n bs h = all_take (λ b. b < 256) n bs h

pub low_drop : (n : ℕ) (bs : List ℕ) → IsLow bs → IsLow (drop n bs)
low_drop n bs h = all_drop (λ b. b < 256) n bs h

-- the word at a place that is there
word_at-bytes : (k : ℕ) (bs : List ℕ) → k + 4 ≤ length bs → IsLow bs → to_le_bytes w32 (word_at k bs) ≡ take 4 (drop k bs)
word_at-bytes k bs room low =
    le_bytes_4 (take 4 (drop k bs)) (word_at k bs) (length-take-le 4 (drop k bs) (omega (arith, length-drop k bs))) (low_at (take 4 (drop k bs)) (low_take 4 (drop k bs) (low_drop k bs low))) refl

word_at-small : (k : ℕ) (bs : List ℕ) → IsLow bs → word_at k bs < 2 ^ 32
word_at-small k bs low = grind (arith, low_at, low_take, low_drop)

-- a byte
byte_line : (names : Names) (p : Place) (b : ℕ) (t : Tail) → b < 256 → is_plain (tail_text t) ≡ true → LineSays names p ((codes ".byte " ++ hex_byte_text b) ++ tail_text t) (b ∷ [])
byte_line names p b t h clean =
    let f = hex_byte_text b in
    let field = hex_byte_field b h in
    let low : b % 256 ≡ b = omega arith in
    let plain = directive_plain (codes ".byte ") f t refl field clean in
    data_line names p _ 1 b f (b ∷ []) (says_byte f t field) plain (λ ns. value_of-hex_byte ns b h) (rw (lt-ltb b 256 h) refl) (rw low refl) refl

-- a word
word_line : (names : Names) (p : Place) (w : ℕ) (t : Tail) → w < 2 ^ 32 → is_plain (tail_text t) ≡ true → LineSays names p ((codes ".word " ++ hex_text w) ++ tail_text t) (to_le_bytes w32 w)
word_line names p w t h clean =
    let f = hex_text w in
    let plain = directive_plain (codes ".word ") f t refl (hex_field w) clean in
    data_line names p _ 4 w f (to_le_bytes w32 w) (says_word f t (hex_field w)) plain (λ ns. value_of-hex ns w h) (rw (lt-ltb w (2 ^ 32) h) refl) refl refl

-- an instruction
instruction_line : (names : Names) (p : Place) (i : Inst) (w0 w1 : ℕ) (t : Tail) → p.location < 2 ^ 32 → w0 < 2 ^ 32 → w1 < 2 ^ 32 → decoded w0 w1 ≡ Ok i → is_plain (tail_text t) ≡ true
    → LineSays names p (text_by p.location w0 (Ok i) ++ tail_text t) (flat_map (to_le_bytes w32) (taken w0 w1 i))
instruction_line names p i w0 w1 t low h0 h1 is clean =
    let bits = bit_and w0 (ignored_bits i) in
    let v = encodes_valid w0 w1 i h1 (decoded_encodes w0 w1 i is) in
    let small : bits < 2 ^ 32 = omega (arith, and_le_l w0 (ignored_bits i)) in
    let q = leaves t in
    let statement = statement_text p.location i bits in
    let text = statement ++ pad q in
    let here : p.location ≡ address_at p = omega arith in
    let read = λ (ns : Names). ap (λ a. statement_of a ns text) (sym here) ∙ statement_of-text p.location ns i bits q low small v (and_again w0 (ignored_bits i)) in
    record {
      item = Instruction text;
      says = says_statement p.location i bits t small v;
      clean = plain-append statement (tail_text t) (statement_plain statement (statement_bytes p.location i bits small v)) clean;
      gives = gives_instruction text (taken w0 w1 i) (subst (λ a. Stands names a text (taken w0 w1 i)) here (statement_stands names p.location w0 w1 i q low h0 h1 is));
      sound = ap (λ n. n.fault) (read names);
      size = ap statement_size (read no_names) ∙ taken_length i w0 w1;
      stays = refl;
      known = refl;
    }

-- where the instruction is whole, its words are the bytes of the line
whole_bytes : (i : Inst) (bs : List ℕ) → IsLow bs → 4 ≤ length bs → ltb (length bs) (4 * words_of i) ≡ false → flat_map (to_le_bytes w32) (taken (word_at 0 bs) (word_at 4 bs) i) ≡ take (4 * words_of i) bs
whole_bytes i bs low four whole = grind arith

-- the comment of a line
abbrev comment_of : ℕ → List ℕ → Tail
comment_of a bs = Comment (space ∷ (word_text a ++ noted_words (line_size a bs) bs))

comment_plain : (a : ℕ) (bs : List ℕ) → is_plain (tail_text (comment_of a bs)) ≡ true
comment_plain a bs = grind (arith, plain-append, plain-word_text, plain-byte_text)

single_small : (a : ℕ) (xs : List ℕ) → is_single a xs ≡ false → 4 ≤ length xs
single_small a xs h = ltb-false _ _ (or_parts (ltb (length xs) 4) (ltb 0 (a % 4)) h).0

-- the first line of a run says its first bytes
line_says : (names : Names) (p : Place) (b : ℕ) (bs : List ℕ) (t : Tail) → IsLow (b ∷ bs) → p.location + length (b ∷ bs) ≤ 2 ^ 32 → is_plain (tail_text t) ≡ true
    → LineSays names p (said_text p.location (b ∷ bs) ++ tail_text t) (take (line_size p.location (b ∷ bs)) (b ∷ bs))
line_says names p b bs t low room clean = elim (cases_Bool (is_single p.location (b ∷ bs))) [
  | inl single ↦ rw single (byte_line names p b t low.0 clean)
  | inr many ↦ rw many (by_decoded (single_small p.location (b ∷ bs) many) (decoded (word_at 0 (b ∷ bs)) (word_at 4 (b ∷ bs))) refl)
]
  where
    number : 4 ≤ length (b ∷ bs) → LineSays names p ((codes ".word " ++ hex_text (word_at 0 (b ∷ bs))) ++ tail_text t) (take 4 (b ∷ bs))
    number four =
        subst (λ ys. LineSays names p ((codes ".word " ++ hex_text (word_at 0 (b ∷ bs))) ++ tail_text t) ys) (word_at-bytes 0 (b ∷ bs) (omega arith) low)
        (word_line names p (word_at 0 (b ∷ bs)) t (word_at-small 0 (b ∷ bs) low) clean)

    by_decoded : 4 ≤ length (b ∷ bs) → (r : Result Inst BadWord) → decoded (word_at 0 (b ∷ bs)) (word_at 4 (b ∷ bs)) ≡ r
        → LineSays names p (whole_text p.location (b ∷ bs) r ++ tail_text t) (take (whole_size r (length (b ∷ bs))) (b ∷ bs))
    by_decoded four (Err e) is = number four
    by_decoded four (Ok i) is = elim (cases_Bool (ltb (length (b ∷ bs)) (4 * words_of i))) [
      | inl cut ↦ rw cut (number four)
      | inr whole ↦ rw whole
          (subst (λ ys. LineSays names p (text_by p.location (word_at 0 (b ∷ bs)) (Ok i) ++ tail_text t) ys) (whole_bytes i (b ∷ bs) low four whole)
          (instruction_line names p i (word_at 0 (b ∷ bs)) (word_at 4 (b ∷ bs)) t (omega arith) (word_at-small 0 (b ∷ bs) low) (word_at-small 4 (b ∷ bs) low) is clean))
    ]

-- ---- runs

line_assembles : (names : Names) (s : Source) (b : ℕ) (bs : List ℕ) → IsLow (b ∷ bs) → HasRoom s (length (b ∷ bs)) → line_size s.place.location (b ∷ bs) ≤ length (b ∷ bs)
    → Assembles names s (first_line s.place.location (b ∷ bs)) (past_bytes s (take (line_size s.place.location (b ∷ bs)) (b ∷ bs)))
line_assembles names s b bs low room few =
    let a = s.place.location in
    let xs = b ∷ bs in
    let n = line_size a xs in
    let said = line_says names s.place b bs (comment_of a xs) low room.inside (comment_plain a xs) in
    let len : length (take n xs) ≡ n = length-take-le n xs few in
    said_assembles names s (first_line a xs) (take n xs) said (record { inside = omega (arith, room.inside); few = omega (arith, room.few) })

pub line_size-le : (a : ℕ) (b : ℕ) (bs : List ℕ) → line_size a (b ∷ bs) ≤ length (b ∷ bs)
line_size-le a b bs = grind arith

past_nothing : (s : Source) → past_bytes s [] ≡ s
past_nothing s = rw (add-zero, add-zero, append-nil s.bytes) refl

past_both : (s : Source) (u v : List ℕ) → past_bytes (past_bytes s u) v ≡ past_bytes s (u ++ v)
past_both s u v = grind (arith, length-append, append_assoc)

-- the lines of a run
run_assembles : (names : Names) (a : ℕ) (bs : List ℕ) (lines : List (List ℕ)) → Lists a bs lines → (s : Source) → s.place.location ≡ a → IsLow bs → HasRoom s (length bs) → SaysAll (Assembles names) s lines (past_bytes s bs)
run_assembles names _ _ _ (lists_none a) s at low room = sym (past_nothing s)
run_assembles names _ _ _ (lists_line a b bs lines rest) s at low room =
    let xs = b ∷ bs in
    let n = line_size a xs in
    let few = line_size-le a b bs in
    let next = past_bytes s (take n xs) in
    let len : length (take n xs) ≡ n = length-take-le n xs few in
    let left = length-drop n xs in
    let first : Assembles names s (first_line a xs) next =
    subst (λ x. Assembles names s (first_line x xs) (past_bytes s (take (line_size x xs) xs))) at (line_assembles names s b bs low room (line_size-le s.place.location b bs)) in
    let more = run_assembles names (a + n) (drop n xs) lines rest next (omega (arith, at)) (low_drop n xs low) (record { inside = omega (arith, room.inside); few = omega (arith, room.few) }) in
    (next, first, subst (λ t. SaysAll (Assembles names) next lines t) (past_both s (take n xs) (drop n xs) ∙ ap (past_bytes s) (take-append-drop n xs)) more)

-- ---- whole listings

-- lines assemble without a fault behind a source, to these segments
record Relists (names : Names) (s : Source) (lines : List (List ℕ)) (runs : List Part) : Type 0 where
  end : Source
  assembled : SaysAll (Assembles names) s lines end
  segments : segments_of end ≡ segments_of s ++ runs
  room : HasRoom end 0

org_plain : (a : ℕ) → is_plain (org_line a) ≡ true
org_plain a = statement_plain (org_line a) (operand_statement (hex_text a) (hex_field a).bytes)

-- a new segment
abbrev begun_at : Source → ℕ → Source
begun_at s a = record { place = record { location = a; known = s.place.known }; segments = segments_of s; address = a; bytes = []; total = s.total }

org_assembles : (names : Names) (s : Source) (a : ℕ) → a < 2 ^ 32 → s.place.location ≤ 2 ^ 32 → s.total ≤ most_bytes → Assembles names s (org_line a) (begun_at s a)
unfolding line_fault
org_assembles names s a low here few =
    let f = hex_text a in
    let line = org_line a in
    let says : Says line (Org f) = subst (λ l. Says l (Org f)) (append-nil line) (says_org f NoTail (hex_field a)) in
    let v = value_of-hex s.place.known a low in
    let ascii : list_all is_ascii line ≡ true = ascii-plain line (org_plain a) in
    let moves : moved_to s.place (Org f) ≡ Some a = ap (λ o. if_fine (settled o) (Some (settled o).value)) v in
    let sound : item_fault names s.place (Org f) ≡ None = ap (λ o. (settled o).fault) v in
    let inside : ltb (2 ^ 32) (s.place.location + 0) ≡ false = le-ltb _ _ (omega arith) in
    let small : ltb most_bytes (s.total + 0) ≡ false = le-ltb _ _ (omega arith) in
    let location : a % location_count ≡ a = omega arith in
    let begins : a % 2 ^ 32 ≡ a = omega arith in
    record {
      bytes = [];
      sound = rw (ascii, says.label, says.item, sound, inside, small) refl;
      gives = rw (says.label, says.item) (gives_move f);
      after = rw (says.label, says.item, ascii, moves, location, begins, add-zero) refl;
    }

-- a segment with bytes is kept
kept_segment : (ps : List Part) (a : ℕ) (bs : List ℕ) → 0 < length bs → with_part ps a bs ≡ ps ++ record { address = a; bytes = bs } ∷ []
kept_segment ps a bs h = grind arith

listing_assembles : (names : Names) (runs : List Part) (lines : List (List ℕ)) → ListsAll runs lines → (s : Source) → AllByRecursion IsRun runs → s.place.location ≤ 2 ^ 32 → s.total + bytes_in runs ≤ most_bytes
    → Relists names s lines runs
listing_assembles names _ _ lists_all s runs here few = record { end = s; assembled = refl; segments = sym (append-nil (segments_of s)); room = record { inside = omega arith; few = omega arith } }
listing_assembles names _ _ (lists_run a bs runs lines more run rest) s h here few =
    let inside = h.0.inside in
    let some = h.0.some in
    let b = begun_at s a in
    let t = past_bytes b bs in
    let first = org_assembles names s a (omega arith) here (omega arith) in
    let body = run_assembles names a bs lines run b refl h.0.low (record { inside = inside; few = omega arith }) in
    let after = listing_assembles names runs more rest t h.1 inside (omega arith) in
    record {
      end = after.end;
      assembled = (b, first, SaysAll-append (Assembles names) b t after.end lines more body after.assembled);
      segments = after.segments ∙ ap (λ ps. ps ++ runs) (kept_segment (segments_of s) a bs some) ∙ append_assoc (segments_of s) (record { address = a; bytes = bs } ∷ []) runs;
      room = after.room;
    }

-- a listing is a source without fault, and its segments are the runs
pub listing_is_assembly : (runs : List Part) (lines : List (List ℕ)) → ListsAll runs lines → AllByRecursion IsRun runs → bytes_in runs ≤ most_bytes → IsAssembly lines runs
listing_is_assembly runs lines listed h few =
    let r = listing_assembles (all_names lines) runs lines listed start_source h (omega arith) (omega arith) in
    record { end = r.end; assembled = r.assembled; kept = r.segments }

-- ---- the text of a listing

run_plain : (a : ℕ) (bs : List ℕ) (lines : List (List ℕ)) → Lists a bs lines → IsLow bs → a + length bs ≤ 2 ^ 32 → AllByRecursion IsPlain lines
run_plain _ _ _ (lists_none a) low room = tt
run_plain _ _ _ (lists_line a b bs lines rest) low room =
    let xs = b ∷ bs in
    let n = line_size a xs in
    let few = line_size-le a b bs in
    let here : Place = record { location = a; known = no_names } in (
      record { test = (line_says no_names here b bs (comment_of a xs) low room (comment_plain a xs)).clean },
      run_plain (a + n) (drop n xs) lines rest (low_drop n xs low) (omega (arith, length-drop n xs)),
    )

listing_plain : (runs : List Part) (lines : List (List ℕ)) → ListsAll runs lines → AllByRecursion IsRun runs → AllByRecursion IsPlain lines
listing_plain _ _ lists_all h = tt
listing_plain _ _ (lists_run a bs runs lines more run rest) h =
    (record { test = org_plain a }, all_lists IsPlain lines more (run_plain a bs lines run h.0.low h.0.inside) (listing_plain runs more rest h.1))

-- the empty line behind the last line feed
blank_assembles : (names : Names) (s : Source) → HasRoom s 0 → Assembles names s [] s
unfolding item_of labelled code_len
blank_assembles names s room =
    subst (λ t. Assembles names s [] t) (past_nothing s)
    (said_assembles names s [] [] (record { item = Empty; says = record { item = refl; label = refl }; clean = refl; gives = gives_nothing; sound = refl; size = refl; stays = refl; known = refl }) room)

-- a listing with a line feed behind each line is a source without fault, and its segments are the runs
pub text_is_assembly : (runs : List Part) (lines : List (List ℕ)) → ListsAll runs lines → AllByRecursion IsRun runs → bytes_in runs ≤ most_bytes → IsAssembly (lines_of (flat_map with_line_feed lines)) runs
text_is_assembly runs lines listed h few =
    let all = lines ++ [] ∷ [] in
    let names = all_names all in
    let r = listing_assembles names runs lines listed start_source h (omega arith) (omega arith) in
    let blank = SaysAll-append (Assembles names) start_source r.end r.end lines ([] ∷ []) r.assembled (r.end, blank_assembles names r.end r.room, refl) in
    subst (λ ls. IsAssembly ls runs) (sym (lines_of-written lines (listing_plain runs lines listed h))) (record { end = r.end; assembled = blank; kept = r.segments })

-- ---- the statement of two words

adds_by : (names : Names) (w0 w1 : ℕ) (r : Result Inst BadWord) (s : Source) → s.place.location < 2 ^ 32 → w0 < 2 ^ 32 → w1 < 2 ^ 32 → decoded w0 w1 ≡ r → LineSays names s.place (text_by s.place.location w0 r ++ tail_text NoTail) (flat_map (to_le_bytes w32) (printed_words w0 w1 r))
adds_by names w0 w1 (Ok i) s low h0 h1 is = instruction_line names s.place i w0 w1 NoTail low h0 h1 is refl
adds_by names w0 w1 (Err e) s low h0 h1 is = word_line names s.place w0 NoTail h0 refl

-- at its address it adds the words that it was printed of
pub text_of-adds : (names : Names) (ip w0 w1 : ℕ) → ip < 2 ^ 32 → w0 < 2 ^ 32 → w1 < 2 ^ 32 → AddsBytes names ip (text_of ip w0 w1) (printed_bytes w0 w1)
unfolding text_of
text_of-adds names ip w0 w1 low h0 h1 s at room =
    let r = decoded w0 w1 in
    let said : LineSays names s.place (text_by s.place.location w0 r ++ tail_text NoTail) (printed_bytes w0 w1) = adds_by names w0 w1 r s (omega (arith, at)) h0 h1 refl in
    subst (λ line. Assembles names s line (past_bytes s (printed_bytes w0 w1))) (append-nil (text_by s.place.location w0 r) ∙ ap (λ a. text_by a w0 r) at)
    (said_assembles names s _ (printed_bytes w0 w1) said room)
