-- A printed statement is read again.
use Rattle.std.proofs.Common.{◌≡◌, ℕ, zero, suc, ◌+◌, ◌/◌, ◌%◌, ◌^◌, ◌<◌, ◌≤◌, Bool, true, not, cond, eqb, List, [], ◌∷◌, ◌++◌, length, Some, refl, ap, ◌∙◌, arith, append_assoc, lit≤, lit<, inl, inr}
use Rattle.std.proofs.Math.Nat.{pow-le-pow_right, pow-suc}
use Rattle.std.specs.Prelude.{codes}
use Rattle.std.proofs.Math.Dec.{eqb-suc-zero}
use Rattle.std.specs.List.{AllByRecursion}
use Rattle.std.specs.Fmt.{digits, digits_onto, digit_glyph}
use Rattle.std.specs.Int.Bits.{bit_and}
use Rattle.std.proofs.lemmas.Bool.{eq-eqb, cases_Bool}
use Rattle.std.proofs.lemmas.Fmt.{digits_is_IsNumeral}
use Rattle.std.proofs.lemmas.List.{append-nil}
use Rattle.i9_isa.specs.declared.inst.Inst.{Inst}
use Rattle.i9_isa.specs.Valid.{IsValid}
use Rattle.i9_decode.specs.Ignored.{ignored_bits}
use Rattle.i9_text.specs.Text.{space, is_blank}
use Rattle.i9_text.proofs.Digits.{number_of-digits}
use Rattle.i9_statement.specs.Noted.{fine}
use Rattle.i9_statement.specs.Cut.{from, is_byte}
use Rattle.i9_statement.specs.Values.{Names, is_name_byte}
use Rattle.i9_statement.specs.Mnemonics.{mnemonic, named_by, mnemonic_text}
use Rattle.i9_statement.specs.Fields.{fields_of, join_fields}
use Rattle.i9_statement.specs.Instructions.{Fields, instruction_of, operand_fields}
use Rattle.i9_statement.specs.Statements.{said, open_brace, close_brace, spare_of, with_spare, statement_by, statement_of, fields_text, statement_text}
use Rattle.i9_statement.proofs.Cutting.{is_free, stops, before-cut, from-cut, closed-cut, all_append}
use Rattle.i9_statement.proofs.NameBytes.{name_bytes}
use Rattle.i9_statement.proofs.ReadInstructions.{mnemonic_bytes, named_by-text, instruction_of-fields}
use Rattle.i9_statement.proofs.Classes.{is_operand_byte, free_in, free_of_blanks, IsField, operand_fields-fields}
use Rattle.i9_statement.proofs.ReadFields.{pad, words_of-pad, fields_of-text}

-- ---- bits in braces

-- the digits are no more than those of the limit
digits_onto-length : (k j n : ℕ) (acc : List ℕ) → n < 16 ^ suc j → suc j ≤ k → length (digits_onto k 16 true n acc) ≤ length acc + suc j
digits_onto-length zero j n acc small enough = absurd (omega arith)
digits_onto-length (suc k) zero n acc small enough = grind (arith, eq-eqb)
digits_onto-length (suc k) (suc j) n acc small enough =
    let rest = digits_onto-length k j (n / 16) (digit_glyph true (n % 16) ∷ acc) (omega (arith, pow-suc 16 (suc j))) (omega arith) in
    elim (cases_Bool (eqb (n / 16) 0)) [
      | inl last ↦ rw last (omega arith)
      | inr more ↦ rw more (omega (arith, rest))
    ]

digits_length : (n : ℕ) → n < 2 ^ 32 → length (digits 16 true n) ≤ 8
unfolding digits
digits_length n h = digits_onto-length 64 7 n [] h (omega arith)

pub wide_digits : (n : ℕ) → n < 2 ^ 32 → n < 16 ^ 64
wide_digits n h = omega (arith, pow-le-pow_right {n = 16} (lit< tt) {i = 8} {j = 64} (omega arith))

spare_of-text : (bits : ℕ) (q : Bool) → bits < 2 ^ 32 → spare_of (open_brace ∷ (digits 16 true bits ++ close_brace ∷ []) ++ pad q) ≡ Some bits
unfolding spare_of
spare_of-text bits q small =
    let ds = digits 16 true bits in
    let h = digits_is_IsNumeral 16 true (omega arith) (omega arith) bits (wide_digits bits small) in
    let names = name_bytes ds 16 (lit≤ tt) h.0.1 in
    let blanks = all_append (λ b. not (is_blank b)) ds (close_brace ∷ []) (free_of_blanks is_name_byte ds refl refl names) refl in
    cc (
      words_of-pad (open_brace ∷ ds ++ close_brace ∷ []) q refl blanks,
      closed-cut close_brace ds [] (free_in is_name_byte close_brace ds refl names),
      number_of-digits 16 8 ds h.0.0 (digits_length bits small) h.0.1,
    )

-- ---- the whole

suffix_blanks : (hint : Bool) → is_free is_blank (cond hint (codes ".f") []) ≡ true
suffix_blanks hint = grind arith

mnemonic_blanks : (i : Inst) → is_free is_blank (mnemonic_text i.op i.hint) ≡ true
mnemonic_blanks i =
    all_append (λ b. not (is_blank b)) (mnemonic i.op) (cond i.hint (codes ".f") []) (free_of_blanks is_name_byte (mnemonic i.op) refl refl (mnemonic_bytes i.op)) (suffix_blanks i.hint)

pad_braces : (q : Bool) → is_free (is_byte open_brace) (pad q) ≡ true
pad_braces q = grind arith

join_braces : (fs : Fields) → AllByRecursion IsField fs → is_free (is_byte open_brace) (join_fields fs) ≡ true
unfolding join_fields
join_braces [] h = refl
join_braces (f ∷ []) h = free_in is_operand_byte open_brace f refl h.0.bytes
join_braces (f ∷ g ∷ fs) h = grind (arith, all_append, free_in, join_braces (g ∷ fs) h.1)

fields_braces : (fs : Fields) → AllByRecursion IsField fs → is_free (is_byte open_brace) (fields_text fs) ≡ true
fields_braces fs h = grind (arith, join_braces)

-- a statement whose parts stand one behind the other
statement_parts : (ip : ℕ) (names : Names) (i : Inst) (q : Bool) (brace : List ℕ) (bits : ℕ) → ip < 2 ^ 32 → IsValid i → bit_and bits (ignored_bits i) ≡ bits
    → stops (is_byte open_brace) brace ≡ true → stops is_blank ((fields_text (operand_fields ip i) ++ pad q) ++ brace) ≡ true → spare_of brace ≡ Some bits
    → statement_of ip names (mnemonic_text i.op i.hint ++ ((fields_text (operand_fields ip i) ++ pad q) ++ brace)) ≡ fine (said i bits)
unfolding statement_of
statement_parts ip names i q brace bits low v ignored stop blank spare =
    let fs = operand_fields ip i in
    let fields = operand_fields-fields ip i v in
    let front = fields_text fs ++ pad q in
    let free : is_free (is_byte open_brace) front ≡ true = all_append (λ b. not (is_byte open_brace b)) (fields_text fs) (pad q) (fields_braces fs fields) (pad_braces q) in
    ap (λ w. statement_by ip names (named_by w) (from is_blank (mnemonic_text i.op i.hint ++ (front ++ brace)))) (before-cut is_blank (mnemonic_text i.op i.hint) (front ++ brace) (mnemonic_blanks i) blank)
    ∙ ap (statement_by ip names (named_by (mnemonic_text i.op i.hint))) (from-cut is_blank (mnemonic_text i.op i.hint) (front ++ brace) (mnemonic_blanks i) blank)
    ∙ ap (λ n. statement_by ip names n (front ++ brace)) (named_by-text i.op i.hint v.hint)
    ∙ ap (λ t. with_spare (instruction_of ip i.op i.hint names (fields_of t)) (spare_of (from (is_byte open_brace) (front ++ brace)))) (before-cut (is_byte open_brace) front brace free stop)
    ∙ ap (λ t. with_spare (instruction_of ip i.op i.hint names (fields_of front)) (spare_of t)) (from-cut (is_byte open_brace) front brace free stop)
    ∙ ap (λ f. with_spare (instruction_of ip i.op i.hint names f) (spare_of brace)) (fields_of-text fs q fields)
    ∙ ap (λ n. with_spare n (spare_of brace)) (instruction_of-fields ip names i low v)
    ∙ ap (with_spare (fine i)) spare
    ∙ rw (eq-eqb (bit_and bits (ignored_bits i)) bits ignored) refl

plain_blank : (fs : Fields) (q : Bool) → stops is_blank ((fields_text fs ++ pad q) ++ []) ≡ true
plain_blank fs q = grind arith

braced_blank : (fs : Fields) (t : List ℕ) → stops is_blank ((fields_text fs ++ pad true) ++ t) ≡ true
braced_blank fs t = grind arith

no_spare : spare_of [] ≡ Some 0
unfolding spare_of
no_spare = refl

-- the statement of a valid instruction is read again, also with a space behind it
pub statement_of-text : (ip : ℕ) (names : Names) (i : Inst) (bits : ℕ) (q : Bool) → ip < 2 ^ 32 → bits < 2 ^ 32 → IsValid i → bit_and bits (ignored_bits i) ≡ bits
    → statement_of ip names (statement_text ip i bits ++ pad q) ≡ fine (said i bits)
unfolding statement_text
statement_of-text ip names i zero q low small v ignored =
    let m = mnemonic_text i.op i.hint in
    let fields = fields_text (operand_fields ip i) in
    cc (
      append-nil fields,
      append_assoc m fields (pad q),
      append-nil (fields ++ pad q),
      statement_parts ip names i q [] 0 low v ignored refl (plain_blank (operand_fields ip i) q) no_spare,
    )
statement_of-text ip names i (suc n) q low small v ignored =
    let m = mnemonic_text i.op i.hint in
    let fields = fields_text (operand_fields ip i) in
    let bits = suc n in
    let inner = open_brace ∷ (digits 16 true bits ++ close_brace ∷ []) in
    cc (
      eqb-suc-zero n,
      append_assoc m (fields ++ space ∷ inner) (pad q),
      append_assoc fields (space ∷ inner) (pad q),
      append_assoc fields (space ∷ []) (inner ++ pad q),
      statement_parts ip names i true (inner ++ pad q) bits low v ignored refl (braced_blank (operand_fields ip i) (inner ++ pad q)) (spare_of-text bits q small),
    )
