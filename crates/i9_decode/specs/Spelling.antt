-- The bits M and S of an operand's field.
use Rattle.std.specs.Prelude.{Bool, true, false}
use Rattle.i9_isa.specs.declared.inst.Operand.{Operand}
use Rattle.i9_isa.specs.declared.inst.Operand.TheVariants.{Lit, Sfr}
use Rattle.i9_isa.specs.declared.format.Use.{Use}
use Rattle.i9_isa.specs.declared.format.Use.TheVariants.{Source, Left, Right, Destination}

-- M is set for a literal source, and for a special function register as destination
abbrev pub m_of : Use → Operand → Bool
m_of (Source n) (Lit l) = true
m_of Left (Lit l) = true
m_of (Destination n) (Sfr s) = true
m_of _ _ = false

-- S is set for a special function register as source
abbrev pub s_of : Use → Operand → Bool
s_of (Source n) (Sfr s) = true
s_of Right (Sfr s) = true
s_of _ _ = false
