-- A printed operand is read again.
use Rattle.std.proofs.Common.{◌≡◌, ℕ, ◌+◌, ◌<◌, true, List, [], ◌∷◌, length, Some, None, refl, ap, ◌∙◌, arith}
use Rattle.std.specs.Option.{option_map}
use Rattle.std.specs.Char.{digit_value}
use Rattle.std.specs.Str.Parse.{AllDigits}
use Rattle.std.proofs.lemmas.Fmt.{decimal_is_IsNumeral}
use Rattle.std.specs.Fmt.{decimal}
use Rattle.std.proofs.lemmas.Bool.{lt-ltb}
use Rattle.i9_isa.specs.declared.inst.Operand.{Operand}
use Rattle.i9_isa.specs.declared.inst.Operand.TheVariants.{Reg, Lit, Sfr}
use Rattle.i9_isa.specs.declared.format.Use.{Use}
use Rattle.i9_isa.specs.Operands.{takes}
use Rattle.i9_statement.specs.Noted.{fine}
use Rattle.i9_statement.specs.Registers.{register_place, register_text, register_of, register_at}
use Rattle.i9_statement.specs.Values.{Names}
use Rattle.i9_statement.specs.Operands.{takes_literals, operand_of}
use Rattle.i9_statement.specs.Printed.{operand_text, HasText}
use Rattle.i9_statement.proofs.ReadValues.{register_place-text, value_of-decimal}

-- ---- what a use takes is in range

pub taken_in_range : (u : Use) (o : Operand) → takes u o ≡ true → HasText o
taken_in_range u o h = grind arith

literal_taken : (u : Use) (l : ℕ) → takes u (Lit l) ≡ true → takes_literals u ≡ true
literal_taken u l h = grind arith

-- ---- the register, or none, of a printed operand

register_of-text : (r : ℕ) → r < 32 → register_of (register_text r) ≡ Some (Reg r)
register_of-text r h = ap (option_map register_at) (register_place-text r (omega arith)) ∙ rw (lt-ltb r 32 h) refl

special_of-text : (s : ℕ) → s < 3 → register_of (register_text (32 + s)) ≡ Some (Sfr s)
special_of-text s h = grind (arith, register_place-text)

digit_place : (c : ℕ) (w : List ℕ) → digit_value c < 10 → register_place (c ∷ w) ≡ None
unfolding register_place
digit_place c w h = grind arith

digits_place : (w : List ℕ) → 0 < length w → AllDigits 10 w → register_place w ≡ None
digits_place [] some h = absurd (omega arith)
digits_place (c ∷ w) some h = digit_place c w h.0

no_register : (l : ℕ) → l < 32 → register_of (decimal l) ≡ None
no_register l h = grind (arith, decimal_is_IsNumeral, digits_place)

-- the operand that a use takes is read again
pub operand_of-text : (u : Use) (names : Names) (o : Operand) → takes u o ≡ true → operand_of u names (operand_text o) ≡ fine o
unfolding operand_of operand_text
operand_of-text u names (Reg r) h = grind (arith, register_of-text, taken_in_range)
operand_of-text u names (Sfr s) h = grind (arith, special_of-text, taken_in_range)
operand_of-text u names (Lit l) h = grind (arith, taken_in_range, no_register, value_of-decimal, literal_taken, lt-ltb)
