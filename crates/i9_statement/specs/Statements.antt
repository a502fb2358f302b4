-- Statements: a mnemonic, operands, and ignored bits in braces.
use Rattle.std.specs.Prelude.{ℕ, ◌==◌, Bool, true, false, List, [], ◌∷◌, ◌++◌, Option, Some, None, pos, if◌then◌else◌}
use Rattle.std.specs.Option.{option_and_then}
use Rattle.std.specs.Str.{bytes_eq}
use Rattle.std.specs.Fmt.{digits}
use Rattle.std.specs.Int.Bits.{bit_and}
use Rattle.i9_isa.specs.declared.op.Op.{Op}
use Rattle.i9_isa.specs.declared.op.Op.TheVariants.{Notbit}
use Rattle.i9_isa.specs.declared.inst.Operand.TheVariants.{Reg}
use Rattle.i9_isa.specs.declared.inst.Inst.{Inst}
use Rattle.i9_isa.specs.Operands.{no_address}
use Rattle.i9_decode.specs.Ignored.{ignored_bits}
use Rattle.i9_text.specs.Text.{space, is_blank, number_of}
use Rattle.i9_text.specs.Text as text
use Rattle.i9_statement.specs.declared.fault.Noted.{Noted}
use Rattle.i9_statement.specs.declared.statements.Statement.{Statement}
use Rattle.i9_statement.specs.declared.fault.Fault.TheVariants as fault
use Rattle.i9_statement.specs.Noted.{fine, wrong, least}
use Rattle.i9_statement.specs.Cut.{before, from, behind, is_byte, closed}
use Rattle.i9_statement.specs.Values.{Names}
use Rattle.i9_statement.specs.Mnemonics.{named_by, mnemonic_text}
use Rattle.i9_statement.specs.Fields.{fields_of, join_fields}
use Rattle.i9_statement.specs.Instructions.{Fields, instruction_of, operand_fields}

-- `{` and `}`
abbrev pub open_brace : ℕ
open_brace = 123

abbrev pub close_brace : ℕ
close_brace = 125

-- digits, behind whose brace nothing stands
abbrev pub if_nothing_left : List ℕ × List ℕ → Option ℕ
if_nothing_left c = if bytes_eq c.1 [] then number_of 16 8 c.0 else None

-- digits between braces
abbrev pub braced : List ℕ → Option ℕ
braced w = option_and_then (λ s. option_and_then if_nothing_left (closed close_brace s)) (behind open_brace w)

-- by the words behind the operands
abbrev pub spare_in : List (List ℕ) → Option ℕ
spare_in [] = Some 0
spare_in (w ∷ []) = braced w
spare_in (w ∷ x ∷ ws) = None

-- the bits in braces; nothing says 0
unfoldable pub spare_of : List ℕ → Option ℕ
spare_of s = spare_in (text.words_of s)

-- an instruction, and the ignored bits that are set in its first word
abbrev pub said : Inst → ℕ → Statement
said i bits = record { inst = i; spare = bits }

-- the bits, which must be ignored bits of the instruction
abbrev pub spare_noted : Inst → Option ℕ → Noted ℕ
spare_noted i None = wrong fault.Form 0
spare_noted i (Some bits) = if bit_and bits (ignored_bits i) == bits then fine bits else wrong fault.Form 0

-- an instruction with bits
abbrev pub joined : Noted Inst → Noted ℕ → Noted Statement
joined n s = record { value = said n.value s.value; fault = least n.fault s.fault }

-- an instruction with the bits in braces
abbrev pub with_spare : Noted Inst → Option ℕ → Noted Statement
with_spare n bits = joined n (spare_noted n.value bits)

-- what stands where no mnemonic is known
abbrev pub no_statement : Statement
no_statement = said (record
    { op = Notbit; a = Reg 0; b = Reg 0; c = Reg 0; ea = no_address; disp = pos 0; hint = false }) 0

-- by the name and the prediction; the operands end at a brace
abbrev pub statement_by : ℕ → Names → Option (Op × Bool) → List ℕ → Noted Statement
statement_by ip names None rest = wrong fault.UnknownMnemonic no_statement
statement_by ip names (Some n) rest =
    with_spare (instruction_of ip n.0 n.1 names (fields_of (before (is_byte open_brace) rest)))
    (spare_of (from (is_byte open_brace) rest))

-- the instruction at ip that a statement says; it begins with its mnemonic
unfoldable pub statement_of : ℕ → Names → List ℕ → Noted Statement
statement_of ip names s = statement_by ip names (named_by (before is_blank s)) (from is_blank s)

-- ---- printed

abbrev pub fields_text : Fields → List ℕ
fields_text [] = []
fields_text (f ∷ fs) = space ∷ join_fields (f ∷ fs)

-- set ignored bits, without leading zeros
abbrev pub spare_text : ℕ → List ℕ
spare_text bits = if bits == 0 then [] else space ∷ open_brace ∷ digits 16 true bits ++ close_brace ∷ []

-- the statement of an instruction at ip with these ignored bits
unfoldable pub statement_text : ℕ → Inst → ℕ → List ℕ
statement_text ip i bits = mnemonic_text i.op i.hint ++ (fields_text (operand_fields ip i) ++ spare_text bits)
