-- Operands of the register and the compare-and-branch format.
use Rattle.std.specs.Prelude.{ℕ, nat_lt, Bool, true, false, List, Option, Some, None, if◌then◌else◌}
use Rattle.i9_isa.specs.declared.inst.Operand.{Operand}
use Rattle.i9_isa.specs.declared.inst.Operand.TheVariants.{Reg, Lit}
use Rattle.i9_isa.specs.declared.format.Use.{Use}
use Rattle.i9_isa.specs.declared.format.Use.TheVariants.{Source, Left}
use Rattle.i9_isa.specs.Operands.{takes}
use Rattle.i9_statement.specs.declared.fault.Noted.{Noted}
use Rattle.i9_statement.specs.declared.fault.Fault.TheVariants as fault
use Rattle.i9_statement.specs.declared.values.Value.{Value}
use Rattle.i9_statement.specs.declared.values.Value.TheVariants.{Number, Named, Beyond, Unknown}
use Rattle.i9_statement.specs.Noted.{fine, wrong}
use Rattle.i9_statement.specs.Registers.{register_of}
use Rattle.i9_statement.specs.Values.{Names, value_of}

-- a literal is a value from 0 to 31
abbrev pub small_literal : ℕ → Noted Operand
small_literal n = if nat_lt n 32 then fine (Lit n) else wrong fault.Range (Reg 0)

-- a value as a literal
abbrev pub literal : Value → Noted Operand
literal (Number n) = small_literal n
literal (Named n) = small_literal n
literal Beyond = wrong fault.Range (Reg 0)
literal Unknown = wrong fault.UnknownName (Reg 0)

-- where a literal may stand
abbrev pub takes_literals : Use → Bool
takes_literals (Source n) = true
takes_literals Left = true
takes_literals _ = false

-- a register, where the use takes it
abbrev pub allowed : Use → Operand → Noted Operand
allowed u o = if takes u o then fine o else wrong fault.Register (Reg 0)

-- by the register and by the value that the text says
abbrev pub operand_as : Use → Option Operand → Option Value → Noted Operand
operand_as u (Some o) v = allowed u o
operand_as u None (Some v) = if takes_literals u then literal v else wrong fault.Form (Reg 0)
operand_as u None None = wrong fault.Form (Reg 0)

-- the operand of a use that a text says
unfoldable pub operand_of : Use → Names → List ℕ → Noted Operand
operand_of u names s = operand_as u (register_of s) (value_of names s)
