-- Lines that load a decimal number into a register: each number of 32 bits, with or without a label before.
use Rattle.std.proofs.Common.{◌≡◌, ℕ, ◌+◌, ◌*◌, ◌^◌, ◌<◌, ◌≤◌, Bool, true, false, not, cond, ltb, List, [], ◌∷◌, ◌++◌, length, Option, Some, None, refl, ap, add-one, arith}
use Rattle.std.specs.Prelude.{codes}
use Rattle.std.specs.List.{list_all}
use Rattle.std.specs.Fmt.{decimal}
use Rattle.std.proofs.lemmas.Bool.{and_parts, lt-ltb}
use Rattle.std.proofs.lemmas.List.{append-nil}
use Rattle.i9_isa.specs.declared.op.Op.TheVariants.{Lda}
use Rattle.i9_isa.specs.declared.inst.Mode.TheVariants.{Offset, Disp}
use Rattle.i9_isa.specs.declared.inst.Ea.{Ea}
use Rattle.i9_isa.specs.declared.inst.Inst.{Inst}
use Rattle.i9_isa.specs.Words.{words_of_mode, words_of}
use Rattle.i9_isa.specs.declared.format.Use.TheVariants.{Load}
use Rattle.i9_text.specs.Text.{space}
use Rattle.i9_statement.specs.declared.fault.Noted.{Noted}
use Rattle.i9_statement.specs.declared.values.Value.TheVariants.{Number}
use Rattle.i9_statement.specs.Cut.{before, from, is_byte}
use Rattle.i9_statement.specs.Noted.{fine}
use Rattle.i9_statement.specs.Values.{Names, is_name_byte, value_of}
use Rattle.i9_statement.proofs.Cutting.{is_free, before-cut, from-cut, all_append, all_by}
use Rattle.i9_statement.proofs.ReadValues.{has_byte-some, decimal_some, decimal_bytes, value_of-decimal}
use Rattle.i9_statement.specs.Addresses.{bang, opens, address_behind, address_of, base_of, index_of}
use Rattle.i9_statement.specs.Fields.{fields_of, join_fields, comma}
use Rattle.i9_statement.specs.Instructions.{instruction_of}
use Rattle.i9_statement.specs.Mnemonics.{mnemonic, op_named, named_by}
use Rattle.i9_statement.specs.Operands.{operand_of}
use Rattle.i9_statement.specs.Statements.{open_brace, fields_text, spare_of, statement_of, joined, with_spare}
use Rattle.i9_statement.proofs.Classes.{is_operand_byte, apart_by, free_in, IsField}
use Rattle.i9_statement.proofs.ReadAddresses.{ea, free_of_opens}
use Rattle.i9_statement.proofs.ReadFields.{fields_of-text}
use Rattle.i9_statement.proofs.StatementBytes.{is_statement_byte, operand_statement, low_statement}
use Rattle.i9_asm.specs.Lines.{Instruction, Labelled, code_of, code_len, without_comment, labelled, item_by, item_of, label_of}
use Rattle.i9_asm.specs.Places.{Place, no_names, is_ascii, is_label, statement_size, past_label}
use Rattle.i9_asm.specs.Source.{most_bytes, label_fault, line_fault}
use Rattle.i9_asm.proofs.ReadLines.{NoTail, without_comment-tail}
use Rattle.i9_generator.proofs.SoundLines.{Passes}

-- ---- the number as an address

-- a word that is a number of 32 bits
record IsNumber (w : List ℕ) (n : ℕ) : Type 0 where
  some : 0 < length w
  bytes : list_all is_name_byte w ≡ true
  value : (names : Names) → value_of names w ≡ Some (Number n)

decimal_number : (n : ℕ) → n < 2 ^ 32 → IsNumber (decimal n) n
decimal_number n small = grind (arith, decimal_some, decimal_bytes, value_of-decimal)

number_field : (w : List ℕ) (n : ℕ) → IsNumber w n → IsField w
number_field w n h = grind (arith, all_by, has_byte-some)

-- where a byte is not in a text, all of the text stands before it
whole_before : (p : ℕ → Bool) (w : List ℕ) → is_free p w ≡ true → (before p w ≡ w) × (from p w ≡ [])
whole_before p w free = (cc (append-nil w, before-cut p w [] free refl), cc (append-nil w, from-cut p w [] free refl))

-- an offset, or a displacement where the number is too large for one
abbrev pub number_address : ℕ → Ea
number_address n = ea (cond (ltb n 4096) Offset Disp) 0 0 0 n

address_number : (names : Names) (w : List ℕ) (n : ℕ) → IsNumber w n → address_of names w ≡ fine (number_address n)
unfolding address_of address_behind base_of index_of
address_number names [] n h = absurd (omega (arith, h.some))
address_number names (c ∷ w) n h =
    let whole = whole_before opens (c ∷ w) (free_of_opens (c ∷ w) h.bytes) in
    rw (apart_by is_name_byte bang c refl (and_parts (is_name_byte c) _ h.bytes).0, whole.0, whole.1, h.value names) refl

-- ---- the statement

-- a register that is loaded
pub record IsTarget (g : List ℕ) : Type 0 where
  pub field : IsField g
  pub read : (names : Names) → (operand_of (Load 1) names g).fault ≡ None

abbrev pub load_text : List ℕ → List ℕ → List ℕ
load_text w g = codes "lda" ++ fields_text (w ∷ g ∷ [])

-- the instruction that it says
abbrev load_of : ℕ → Names → List ℕ → List ℕ → Noted Inst
load_of ip names w g = instruction_of ip Lda false names (w ∷ g ∷ [])

zero_spare : (n : Noted Inst) → with_spare n (Some 0) ≡ joined n (fine 0)
zero_spare n = grind arith

load_parts : (ip : ℕ) (names : Names) (w g : List ℕ) → IsField w → IsField g
    → statement_of ip names (load_text w g) ≡ joined (load_of ip names w g) (fine 0)
unfolding statement_of named_by op_named mnemonic spare_of join_fields
load_parts ip names w g hw hg =
    let text = fields_text (w ∷ g ∷ []) in
    let free : is_free (is_byte open_brace) text ≡ true =
    all_append (λ b. not (is_byte open_brace b)) w (comma ∷ space ∷ g)
    (free_in is_operand_byte open_brace w refl hw.bytes) (free_in is_operand_byte open_brace g refl hg.bytes) in
    let whole = whole_before (is_byte open_brace) text free in
    let fields : fields_of text ≡ w ∷ g ∷ [] = cc (append-nil text, fields_of-text (w ∷ g ∷ []) false (hw, (hg, tt))) in
    rw (whole.0, whole.1, fields) (zero_spare (load_of ip names w g))

load_fault : (ip : ℕ) (names : Names) (w g : List ℕ) (n : ℕ) → IsNumber w n → IsTarget g → (load_of ip names w g).fault ≡ None
unfolding instruction_of
load_fault ip names w g n h target = rw (address_number names w n h, target.read names) refl

load_words : (ip : ℕ) (names : Names) (w g : List ℕ) (n : ℕ) → IsNumber w n
    → words_of (load_of ip names w g).value ≡ words_of_mode (number_address n).mode
unfolding instruction_of
load_words ip names w g n h = ap (λ a. words_of_mode a.value.mode) (address_number names w n h)

load_sound : (ip : ℕ) (names : Names) (w g : List ℕ) (n : ℕ) → IsNumber w n → IsTarget g
    → (statement_of ip names (load_text w g)).fault ≡ None
load_sound ip names w g n h target =
    cc (load_parts ip names w g (number_field w n h) target.field, load_fault ip names w g n h target)

-- how many bytes it has
abbrev pub load_size : ℕ → ℕ
load_size n = 4 * words_of_mode (number_address n).mode

load_counts : (ip : ℕ) (w g : List ℕ) (n : ℕ) → IsNumber w n → IsTarget g
    → statement_size (statement_of ip no_names (load_text w g)) ≡ load_size n
load_counts ip w g n h target =
    rw (load_parts ip no_names w g (number_field w n h) target.field, load_fault ip no_names w g n h target, load_words ip no_names w g n h) refl

-- ---- the line

-- a line that says such a statement behind a label, or without one
pub record Loads (line : List ℕ) (label : Option (List ℕ)) (size : ℕ) : Type 0 where
  pub said : List ℕ
  pub item : item_of line ≡ Instruction said
  pub named : label_of line ≡ label
  pub ascii : list_all is_ascii line ≡ true
  pub sound : (ip : ℕ) (names : Names) → (statement_of ip names said).fault ≡ None
  pub counts : (ip : ℕ) → statement_size (statement_of ip no_names said) ≡ size

load_bytes : (w g : List ℕ) → IsField w → IsField g → list_all is_statement_byte (load_text w g) ≡ true
unfolding join_fields
load_bytes w g hw hg = grind (arith, all_append, operand_statement)

load_ascii : (w g : List ℕ) → IsField w → IsField g → list_all is_ascii (load_text w g) ≡ true
load_ascii w g hw hg =
    all_by is_statement_byte is_ascii (λ b in_q. lt-ltb b 128 (low_statement b in_q)) (load_text w g) (load_bytes w g hw hg)

load_clean : (w g : List ℕ) → IsField w → IsField g → without_comment (load_text w g) ≡ load_text w g
load_clean w g hw hg =
    cc (append-nil (load_text w g), without_comment-tail (load_text w g) NoTail (load_bytes w g hw hg))

-- by its code, which is the statement behind the label
load_coded : (n : ℕ) (g line : List ℕ) (label : Option (List ℕ)) → n < 2 ^ 32 → IsTarget g → list_all is_ascii line ≡ true
    → code_of line ≡ record { label = label; rest = load_text (decimal n) g } → Loads line label (load_size n)
unfolding item_of
load_coded n g line label small target ascii coded =
    let number = decimal_number n small in
    record {
      said = load_text (decimal n) g;
      item = ap (λ (c : Labelled). item_by c.rest) coded;
      named = ap (λ (c : Labelled). c.label) coded;
      ascii = ascii;
      sound = λ ip names. load_sound ip names (decimal n) g n number target;
      counts = λ ip. load_counts ip (decimal n) g n number target;
    }

decimal_field : (n : ℕ) → n < 2 ^ 32 → IsField (decimal n)
decimal_field n small = number_field (decimal n) n (decimal_number n small)

pub unlabelled_load : (n : ℕ) (g : List ℕ) → n < 2 ^ 32 → IsTarget g → Loads (load_text (decimal n) g) None (load_size n)
unfolding labelled
unlabelled_load n g small target = grind (arith, decimal_field, load_coded, load_ascii, load_clean)

-- a label and a blank before a text
behind_label : (s : List ℕ) → without_comment (codes "loop: " ++ s) ≡ codes "loop: " ++ without_comment s
unfolding code_len
behind_label s = simp add-one refl

pub labelled_load : (n : ℕ) (g : List ℕ) → n < 2 ^ 32 → IsTarget g
    → Loads (codes "loop: " ++ load_text (decimal n) g) (Some (codes "loop")) (load_size n)
unfolding labelled
labelled_load n g small target = grind (arith, decimal_field, load_coded, load_ascii, behind_label, load_clean)

-- ---- the places and the faults

-- so many bytes further
abbrev pub further : ℕ → Place → Place
further size p = record p { location = p.location + size }

-- such a line is passed where there is room for it, and its label is no name before
pub load_passes : (names : Names) (p q : Place) (line : List ℕ) (label : Option (List ℕ)) (count size : ℕ)
    → Loads line label size → is_label label ≡ true → past_label label p ≡ q → label_fault label p.known ≡ None
    → q.location + size ≤ 2 ^ 32 → count + size ≤ most_bytes → Passes names p count line (further size q) (count + size)
unfolding line_fault
load_passes names p q line label count size h form past fresh inside few = grind arith
