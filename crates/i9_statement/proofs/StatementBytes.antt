-- The bytes of which printed statements are made.
use Rattle.std.proofs.Common.{◌≡◌, ℕ, ◌<◌, ◌^◌, Bool, true, false, cond, ◌||◌, List, [], ◌∷◌, ◌++◌, refl, arith, lit≤}
use Rattle.std.specs.List.{list_all, AllByRecursion}
use Rattle.std.specs.Fmt.{digits}
use Rattle.std.proofs.lemmas.Fmt.{digits_is_IsNumeral}
use Rattle.std.proofs.lemmas.Bool.Decides.{nat_tests}
use Rattle.i9_isa.specs.declared.op.Op.{Op}
use Rattle.i9_isa.specs.declared.inst.Inst.{Inst}
use Rattle.i9_isa.specs.Valid.{IsValid}
use Rattle.i9_text.specs.Text.{space}
use Rattle.i9_statement.specs.Cut.{is_byte}
use Rattle.i9_statement.specs.Values.{is_name_byte}
use Rattle.i9_statement.specs.Mnemonics.{mnemonic_text}
use Rattle.i9_statement.specs.Fields.{join_fields, comma}
use Rattle.i9_statement.specs.Instructions.{Fields}
use Rattle.i9_statement.specs.Statements.{open_brace, close_brace, fields_text, statement_text}
use Rattle.i9_statement.proofs.Cutting.{all_by, all_append}
use Rattle.i9_statement.proofs.NameBytes.{name_bytes}
use Rattle.i9_statement.proofs.ReadInstructions.{mnemonic_bytes}
use Rattle.i9_statement.proofs.Classes.{is_operand_byte, IsField, operand_fields-fields}
use Rattle.i9_statement.proofs.ReadStatements.{wide_digits}

-- an operand's, a blank, a comma, a dot or a brace
abbrev pub is_statement_byte : ℕ → Bool
is_statement_byte b = is_operand_byte b || (is_byte 32 b || (is_byte 44 b || (is_byte 46 b || (is_byte 123 b || is_byte 125 b))))

pub operand_statement : (w : List ℕ) → list_all is_operand_byte w ≡ true → list_all is_statement_byte w ≡ true
operand_statement w h = all_by is_operand_byte is_statement_byte (λ b in_q. rw in_q refl) w h

pub name_statement : (w : List ℕ) → list_all is_name_byte w ≡ true → list_all is_statement_byte w ≡ true
name_statement w h = all_by is_name_byte is_statement_byte (λ b in_q. rw in_q refl) w h

mnemonic_text_bytes : (op : Op) (hint : Bool) → list_all is_statement_byte (mnemonic_text op hint) ≡ true
mnemonic_text_bytes op hint = grind (arith, all_append, name_statement, mnemonic_bytes)

join_bytes : (fs : Fields) → AllByRecursion IsField fs → list_all is_statement_byte (join_fields fs) ≡ true
unfolding join_fields
join_bytes [] h = refl
join_bytes (f ∷ []) h = operand_statement f h.0.bytes
join_bytes (f ∷ g ∷ fs) h = all_append is_statement_byte f (comma ∷ space ∷ join_fields (g ∷ fs)) (operand_statement f h.0.bytes) (join_bytes (g ∷ fs) h.1)

fields_bytes : (fs : Fields) → AllByRecursion IsField fs → list_all is_statement_byte (fields_text fs) ≡ true
fields_bytes fs h = grind (arith, join_bytes)

spare_bytes : (q : Bool) (bits : ℕ) → bits < 2 ^ 32 → list_all is_statement_byte (cond q [] (space ∷ open_brace ∷ (digits 16 true bits ++ close_brace ∷ []))) ≡ true
spare_bytes true bits small = refl
spare_bytes false bits small =
    let ds = digits 16 true bits in
    let h = digits_is_IsNumeral 16 true (omega arith) (omega arith) bits (wide_digits bits small) in
    all_append is_statement_byte ds (close_brace ∷ []) (name_statement ds (name_bytes ds 16 (lit≤ tt) h.0.1)) refl

pub statement_bytes : (ip : ℕ) (i : Inst) (bits : ℕ) → bits < 2 ^ 32 → IsValid i → list_all is_statement_byte (statement_text ip i bits) ≡ true
unfolding statement_text
statement_bytes ip i bits small v =
    grind (arith, all_append, mnemonic_text_bytes, fields_bytes, operand_fields-fields, spare_bytes)

-- ---- ASCII

pub low_statement : (n : ℕ) → is_statement_byte n ≡ true → n < 128
low_statement n h = grind (arith, nat_tests)
