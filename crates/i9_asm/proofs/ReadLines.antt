-- A printed statement, alone or with a comment behind it, is the instruction of its line.
use Rattle.std.proofs.Common.{◌≡◌, ℕ, ◌+◌, ◌^◌, ◌<◌, Bool, true, false, not, cond, eqb, ◌||◌, List, [], ◌∷◌, ◌++◌, length, None, refl, sym, ap, ◌∙◌, arith, append_assoc}
use Rattle.std.specs.Prelude.{codes}
use Rattle.std.specs.List.{list_all}
use Rattle.std.specs.Fmt.{digits}
use Rattle.std.proofs.Math.Seq.{take-append-add}
use Rattle.std.proofs.lemmas.Bool.{and_parts, eqb-true, or_parts, not-true}
use Rattle.i9_isa.specs.declared.op.Op.{Op}
use Rattle.i9_isa.specs.declared.inst.Inst.{Inst}
use Rattle.i9_isa.specs.Valid.{IsValid}
use Rattle.i9_text.specs.Text.{space, is_blank, is_in_word}
use Rattle.i9_asm.specs.declared.comments.Quote.TheVariants.{Outside}
use Rattle.i9_statement.specs.Cut.{before, from, is_byte}
use Rattle.i9_statement.specs.Values.{is_name_byte, begins_name}
use Rattle.i9_statement.specs.Mnemonics.{mnemonic, mnemonic_text}
use Rattle.i9_statement.specs.Fields.{fields_of, join_fields}
use Rattle.i9_statement.specs.Instructions.{Fields, operand_fields}
use Rattle.i9_statement.specs.Statements.{open_brace, close_brace, fields_text, spare_text, statement_text}
use Rattle.i9_asm.specs.Lines.{code_len, without_comment, ends_head, labelled, Org, Data, Instruction, one_value, some_values, directive_of, item_by, item_of, Says, code_of, Item}
use Rattle.i9_statement.proofs.Cutting.{is_free, stops, before-cut, from-cut, free_by, all_append}
use Rattle.i9_statement.proofs.ReadInstructions.{mnemonic_bytes}
use Rattle.i9_statement.proofs.Classes.{apart_by, IsField}
use Rattle.i9_statement.proofs.ReadFields.{pad, fields_of-text}
use Rattle.i9_statement.proofs.StatementBytes.{is_statement_byte, operand_statement, statement_bytes}

-- ---- comments

abbrev ends_code : ℕ → Bool
ends_code b = is_byte 35 b || is_byte 34 b

code_len-clean : (w t : List ℕ) → is_free ends_code w ≡ true → code_len Outside (w ++ t) ≡ length w + code_len Outside t
unfolding code_len
code_len-clean [] t free = omega arith
code_len-clean (b ∷ w) t free =
    let h = and_parts (not (ends_code b)) (is_free ends_code w) free in
    let e = or_parts (is_byte 35 b) (is_byte 34 b) (not-true (ends_code b) h.0) in
    let rest = code_len-clean w t h.1 in
    rw (e.0, e.1) (omega (arith, rest))

statement_clean : (w : List ℕ) → list_all is_statement_byte w ≡ true → is_free ends_code w ≡ true
statement_clean w h = free_by is_statement_byte ends_code (λ b in_q. rw (apart_by is_statement_byte 35 b refl in_q, apart_by is_statement_byte 34 b refl in_q) refl) w h

-- what may stand behind a printed statement: nothing, or a space and a comment
pub data Tail : Type 0 where
  NoTail : Tail
  Comment : List ℕ → Tail

abbrev pub tail_text : Tail → List ℕ
tail_text NoTail = []
tail_text (Comment t) = 32 ∷ 35 ∷ t

-- with a comment a space is left
abbrev pub leaves : Tail → Bool
leaves NoTail = false
leaves (Comment t) = true

pub without_comment-tail : (w : List ℕ) (t : Tail) → list_all is_statement_byte w ≡ true → without_comment (w ++ tail_text t) ≡ w ++ pad (leaves t)
unfolding code_len
without_comment-tail w t h = grind (arith, code_len-clean, statement_clean, take-append-add)

-- ---- labels

abbrev pub is_space : ℕ → Bool
is_space b = eqb b 32

pub labelled-none : (w t : List ℕ) → is_free ends_head w ≡ true → stops is_space t ≡ true → labelled (w ++ t) ≡ record { label = None; rest = w ++ t }
unfolding labelled
labelled-none w t free stop = grind (arith, from-cut, eqb-true)

-- a line from its first word on, where it begins with one
pub from_word : (c : ℕ) (w : List ℕ) → is_blank c ≡ false → from is_in_word (c ∷ w) ≡ c ∷ w
from_word c w h = rw h refl

-- ---- the items of printed lines

abbrev starts_item : (ℕ → Bool) → List ℕ → Bool
starts_item p [] = false
starts_item p (b ∷ s) = p b

starts_append : (p : ℕ → Bool) (s t : List ℕ) → starts_item p s ≡ true → starts_item p (s ++ t) ≡ true
starts_append p s t h = grind arith

letter_first : (op : Op) → starts_item begins_name (mnemonic op) ≡ true
unfolding mnemonic
letter_first op = grind arith

item_by-letter : (s : List ℕ) → starts_item begins_name s ≡ true → item_by s ≡ Instruction s
item_by-letter [] h = absurd cc
item_by-letter (b ∷ s) h = rw (apart_by begins_name 46 b refl h) refl

head_free : (w : List ℕ) → list_all is_name_byte w ≡ true → is_free ends_head w ≡ true
head_free w h = free_by is_name_byte ends_head (λ b in_q. rw (apart_by is_name_byte 32 b refl in_q, apart_by is_name_byte 9 b refl in_q, apart_by is_name_byte 58 b refl in_q) refl) w h

suffix_head : (hint : Bool) → is_free ends_head (cond hint (codes ".f") []) ≡ true
suffix_head hint = grind arith

spaced_rest : (fs : Fields) (x q : Bool) (t : List ℕ) → stops is_space ((fields_text fs ++ cond x [] (space ∷ t)) ++ pad q) ≡ true
spaced_rest fs x q t = grind arith

-- where its code begins with a word of the item, a line has no label, and the tail is cut off
code_of-parts : (p : ℕ → Bool) (w t : List ℕ) (tail : Tail) → p 32 ≡ false → p 9 ≡ false → starts_item p w ≡ true → is_free ends_head w ≡ true → stops is_space (t ++ pad (leaves tail)) ≡ true
    → list_all is_statement_byte (w ++ t) ≡ true → code_of ((w ++ t) ++ tail_text tail) ≡ record { label = None; rest = w ++ (t ++ pad (leaves tail)) }
code_of-parts p w t tail sp tb first head stop bytes =
    grind (arith, without_comment-tail, append_assoc, from_word, apart_by, labelled-none)

-- the statement of a valid instruction
pub says_statement : (ip : ℕ) (i : Inst) (bits : ℕ) (tail : Tail) → bits < 2 ^ 32 → IsValid i → Says (statement_text ip i bits ++ tail_text tail) (Instruction (statement_text ip i bits ++ pad (leaves tail)))
unfolding statement_text item_of
says_statement ip i bits tail small v =
    let m = mnemonic_text i.op i.hint in
    let t = fields_text (operand_fields ip i) ++ spare_text bits in
    let q = pad (leaves tail) in
    let first = starts_append begins_name (mnemonic i.op) (cond i.hint (codes ".f") []) (letter_first i.op) in
    let head = all_append (λ b. not (ends_head b)) (mnemonic i.op) (cond i.hint (codes ".f") []) (head_free (mnemonic i.op) (mnemonic_bytes i.op)) (suffix_head i.hint) in
    let stop = spaced_rest (operand_fields ip i) (eqb bits 0) (leaves tail) (open_brace ∷ (digits 16 true bits ++ close_brace ∷ [])) in
    let code = code_of-parts begins_name m t tail refl refl first head stop (statement_bytes ip i bits small v) in
    record {
      item = ap (λ l. item_by l.rest) code ∙ item_by-letter (m ++ (t ++ q)) (starts_append begins_name m (t ++ q) first) ∙ ap Instruction (sym (append_assoc m t q));
      label = ap (λ l. l.label) code;
    }

-- ---- directives with one operand

abbrev is_dot : ℕ → Bool
is_dot b = eqb b 46

-- the name of a directive, by a test that computes
pub record IsDirective (d : List ℕ) : Type 0 where
  pub dot : starts_item is_dot d ≡ true
  pub head : is_free ends_head d ≡ true
  pub bytes : list_all is_statement_byte d ≡ true

item_by-dot : (s : List ℕ) → starts_item is_dot s ≡ true → item_by s ≡ directive_of (before is_blank s) (from is_blank s)
item_by-dot s h = grind arith

blank_head : (w : List ℕ) → is_free ends_head w ≡ true → is_free is_blank w ≡ true
blank_head [] h = refl
blank_head (b ∷ w) h =
    let parts = and_parts (not (ends_head b)) (is_free ends_head w) h in
    let e = or_parts (is_blank b) (is_byte 58 b) (not-true (ends_head b) parts.0) in
    rw e.0 (blank_head w parts.1)

-- what a directive with this operand says, where its name says so of any operands
says_directive : (d f : List ℕ) (tail : Tail) (item : Fields → Item) → IsDirective d → ((rest : List ℕ) → directive_of d rest ≡ item (fields_of rest)) → IsField f
    → Says ((d ++ 32 ∷ f) ++ tail_text tail) (item (f ∷ []))
unfolding item_of join_fields
says_directive d f tail item h is field =
    let t = 32 ∷ f ++ pad (leaves tail) in
    let code = code_of-parts is_dot d (32 ∷ f) tail refl refl h.dot h.head refl (all_append is_statement_byte d (32 ∷ f) h.bytes (operand_statement f field.bytes)) in
    let free = blank_head d h.head in
    record {
      item = ap (λ l. item_by l.rest) code
          ∙ item_by-dot (d ++ t) (starts_append is_dot d t h.dot)
          ∙ ap (λ s. directive_of s (from is_blank (d ++ t))) (before-cut is_blank d t free refl)
          ∙ ap (directive_of d) (from-cut is_blank d t free refl)
          ∙ is t
          ∙ ap item (fields_of-text (f ∷ []) (leaves tail) (field, tt));
      label = ap (λ l. l.label) code;
    }

pub says_word : (f : List ℕ) (tail : Tail) → IsField f → Says ((codes ".word" ++ 32 ∷ f) ++ tail_text tail) (Data 4 (f ∷ []))
says_word f tail h = says_directive (codes ".word") f tail (some_values 4) (record { dot = refl; head = refl; bytes = refl }) (λ rest. refl) h

pub says_byte : (f : List ℕ) (tail : Tail) → IsField f → Says ((codes ".byte" ++ 32 ∷ f) ++ tail_text tail) (Data 1 (f ∷ []))
says_byte f tail h = says_directive (codes ".byte") f tail (some_values 1) (record { dot = refl; head = refl; bytes = refl }) (λ rest. refl) h

pub says_org : (f : List ℕ) (tail : Tail) → IsField f → Says ((codes ".org" ++ 32 ∷ f) ++ tail_text tail) (Org f)
says_org f tail h = says_directive (codes ".org") f tail (one_value Org) (record { dot = refl; head = refl; bytes = refl }) (λ rest. refl) h
