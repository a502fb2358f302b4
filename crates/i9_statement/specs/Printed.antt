-- The text of registers, values and addresses.
use Rattle.std.specs.Prelude.{ℕ, ◌+◌, ◌-◌, ◌%◌, ◌^◌, ◌<◌, ◌==◌, nat_lt, Bool, true, false, List, [], ◌∷◌, ◌++◌, codes}
use Rattle.std.specs.Prelude.{get_or, ℤ, pos, negsuc, if◌then◌else◌}
use Rattle.std.specs.Fmt.{decimal}
use Rattle.i9_isa.specs.declared.inst.Operand.{Operand}
use Rattle.i9_isa.specs.declared.inst.Operand.TheVariants.{Reg, Lit, Sfr}
use Rattle.i9_isa.specs.declared.inst.Mode.{Mode}
use Rattle.i9_isa.specs.declared.inst.Mode.TheVariants.{Offset, BaseOffset, BaseIndex, Disp, BaseDisp}
use Rattle.i9_isa.specs.declared.inst.Ea.{Ea}
use Rattle.i9_isa.specs.Operands.{has_base, has_index}
use Rattle.i9_statement.specs.NumberText.{hex_text}
use Rattle.i9_statement.specs.Registers.{register_text}
use Rattle.i9_statement.specs.Addresses.{bang, open_round, close_round, star, open_square, close_square, scale_names}

-- a literal in decimal, or a register
unfoldable pub operand_text : Operand → List ℕ
operand_text (Reg r) = register_text r
operand_text (Lit l) = decimal l
operand_text (Sfr s) = register_text (32 + s)

-- where the form without `!` would be another mode
abbrev pub needs_bang : Mode → ℕ → Bool
needs_bang Mode.Base d = true
needs_bang Disp d = nat_lt d 4096
needs_bang BaseDisp d = nat_lt d 4096
needs_bang _ d = false

-- `!`, where it is needed
abbrev pub bang_text : Mode → ℕ → List ℕ
bang_text m d = if needs_bang m d then bang ∷ [] else []

-- a displacement in hexadecimal digits, and an offset in decimal ones; offset 0 with a base is not printed
abbrev pub front_text : Mode → ℕ → List ℕ
front_text Offset d = decimal d
front_text BaseOffset d = if d == 0 then [] else decimal d
front_text Mode.Base d = []
front_text BaseIndex d = []
front_text _ d = hex_text d

-- the base in round brackets
abbrev pub base_text : Mode → ℕ → List ℕ
base_text Mode.Ip r = codes "(ip)"
base_text m r = if has_base m then open_round ∷ register_text r ++ close_round ∷ [] else []

-- the index in square brackets
abbrev pub index_text : Mode → ℕ → ℕ → List ℕ
index_text m r s = if has_index m then open_square ∷ (register_text r ++ star ∷ get_or scale_names s [])
    ++ close_square ∷ [] else []

-- the text of an address
unfoldable pub address_text : Ea → List ℕ
address_text e = bang_text e.mode e.disp
    ++ (front_text e.mode e.disp ++ (base_text e.mode e.base ++ index_text e.mode e.index e.scale))

-- the target of a branch at ip
abbrev pub target : ℕ → ℤ → ℕ
target ip (pos n) = (ip + n) % 2 ^ 32
target ip (negsuc n) = (ip + (2 ^ 32 - 1 - n)) % 2 ^ 32

-- the target in hexadecimal digits
unfoldable pub target_text : ℕ → ℤ → List ℕ
target_text ip z = hex_text (target ip z)

-- the numbers of an operand that has a text
abbrev pub HasText : Operand → Type 0
HasText (Reg r) = r < 32
HasText (Lit l) = l < 32
HasText (Sfr s) = s < 3
