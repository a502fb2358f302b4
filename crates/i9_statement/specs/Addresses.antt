-- Addresses of the memory format.
use Rattle.std.specs.Prelude.{ℕ, ◌==◌, nat_lt, Bool, true, false, List, [], ◌∷◌, codes, Option, Some, None}
use Rattle.std.specs.Prelude.{if◌then◌else◌}
use Rattle.std.specs.Option.{option_and_then, option_map}
use Rattle.std.specs.List.{position}
use Rattle.std.specs.Str.{bytes_eq}
use Rattle.i9_isa.specs.declared.inst.Mode.{Mode}
use Rattle.i9_isa.specs.declared.inst.Mode.TheVariants.{Offset, BaseOffset, BaseIndex, Disp, BaseDisp, IndexDisp}
use Rattle.i9_isa.specs.declared.inst.Mode.TheVariants.{BaseIndexDisp}
use Rattle.i9_isa.specs.declared.inst.Ea.{Ea}
use Rattle.i9_isa.specs.declared.inst.Operand.{Operand}
use Rattle.i9_isa.specs.declared.inst.Operand.TheVariants.{Reg}
use Rattle.i9_isa.specs.Operands.{no_address}
use Rattle.i9_statement.specs.declared.fault.Noted.{Noted}
use Rattle.i9_statement.specs.declared.fault.Fault.TheVariants as fault
use Rattle.i9_statement.specs.declared.values.Value.{Value}
use Rattle.i9_statement.specs.declared.values.Value.TheVariants.{Number}
use Rattle.i9_statement.specs.declared.parts.Front.{Front}
use Rattle.i9_statement.specs.declared.parts.Front.TheVariants.{Absent, Malformed, Valued}
use Rattle.i9_statement.specs.declared.parts.Base.{Base}
use Rattle.i9_statement.specs.declared.parts.Base.TheVariants as base
use Rattle.i9_statement.specs.declared.parts.Index.{Index}
use Rattle.i9_statement.specs.declared.parts.Index.TheVariants as index
use Rattle.i9_statement.specs.Cut.{before, from, behind, is_byte, closed}
use Rattle.i9_statement.specs.Noted.{fine, wrong, least}
use Rattle.i9_statement.specs.Registers.{register_place, register_at}
use Rattle.i9_statement.specs.Values.{Names, value_of, value_noted}

-- `!`, `(`, `)`, `*`, `[` and `]`
abbrev pub bang : ℕ
bang = 33

abbrev pub open_round : ℕ
open_round = 40

abbrev pub close_round : ℕ
close_round = 41

abbrev pub star : ℕ
star = 42

abbrev pub open_square : ℕ
open_square = 91

abbrev pub close_square : ℕ
close_square = 93

-- what ends the front of an address
abbrev pub opens : ℕ → Bool
opens b = if b == open_round then true else b == open_square

-- `ip` or a register
abbrev pub base_named : List ℕ → Option Base
base_named s = if bytes_eq s (codes "ip") then Some base.Ip else option_map base.Register (register_place s)

-- a base with what stands behind it
abbrev pub with_rest : {X : Type 0} → Option X → List ℕ → Option (X × List ℕ)
with_rest None rest = None
with_rest (Some x) rest = Some (x, rest)

-- the base in round brackets, if there is one, and what stands behind it
unfoldable pub base_of : List ℕ → Option (Base × List ℕ)
base_of [] = Some (base.Nothing, [])
base_of (b ∷ s) =
    if b == open_round then option_and_then (λ c. with_rest (base_named c.0) c.1) (closed close_round s)
    else Some (base.Nothing, b ∷ s)

-- the scales, each at the place of its power of 2
abbrev pub scale_names : List (List ℕ)
scale_names = codes "1" ∷ codes "2" ∷ codes "4" ∷ codes "8" ∷ codes "16" ∷ []

-- a scale as a power of 2
unfoldable pub scale_of : List ℕ → Option ℕ
scale_of s = position (bytes_eq s) scale_names

-- a register and a scale, where both are read
abbrev pub scaled : Option ℕ → Option ℕ → Option Index
scaled (Some r) (Some k) = Some (index.Scaled r k)
scaled _ _ = None

-- a register, `*` and a scale
abbrev pub scaled_register : List ℕ → Option Index
scaled_register s =
    option_and_then (λ k. scaled (register_place (before (is_byte star) s)) (scale_of k))
    (behind star (from (is_byte star) s))

-- behind it stands nothing
abbrev pub if_last : List ℕ × List ℕ → Option Index
if_last c = if bytes_eq c.1 [] then scaled_register c.0 else None

-- the index in square brackets, if there is one, and nothing behind it
unfoldable pub index_of : List ℕ → Option Index
index_of [] = Some index.Nothing
index_of (b ∷ s) = if b == open_square then option_and_then if_last (closed close_square s) else None

-- what stands before the brackets
abbrev pub valued : Option Value → Front
valued None = Malformed
valued (Some v) = Valued v

-- no text is no front
abbrev pub front_of : Names → List ℕ → Front
front_of names [] = Absent
front_of names (b ∷ s) = valued (value_of names (b ∷ s))

-- a number without a name from 0 to 4095
abbrev pub is_short : Value → Bool
is_short (Number n) = nat_lt n 4096
is_short _ = false

-- the mode by `!`, what stands before the brackets, the base and the index
abbrev pub mode_of : Bool → Front → Base → Index → Option Mode
mode_of false Absent (base.Register r) index.Nothing = Some BaseOffset
mode_of true Absent (base.Register r) index.Nothing = Some Mode.Base
mode_of false Absent (base.Register r) (index.Scaled i k) = Some BaseIndex
mode_of false (Valued v) base.Nothing index.Nothing = Some (if is_short v then Offset else Disp)
mode_of true (Valued v) base.Nothing index.Nothing = Some Disp
mode_of false (Valued v) (base.Register r) index.Nothing = Some (if is_short v then BaseOffset else BaseDisp)
mode_of true (Valued v) (base.Register r) index.Nothing = Some BaseDisp
mode_of false (Valued v) base.Ip index.Nothing = Some Mode.Ip
mode_of false (Valued v) base.Nothing (index.Scaled i k) = Some IndexDisp
mode_of false (Valued v) (base.Register r) (index.Scaled i k) = Some BaseIndexDisp
mode_of _ _ _ _ = None

-- the displacement or the offset; no front says 0
abbrev pub disp_part : Front → Noted ℕ
disp_part (Valued v) = value_noted v
disp_part _ = fine 0

-- a register of the processor's 32, by the place of its name; sf0 to sf2 are none
abbrev pub only_register : Operand → Noted ℕ
only_register (Reg r) = fine r
only_register _ = wrong fault.Register 0

-- by the place of its name
abbrev pub plain_register : ℕ → Noted ℕ
plain_register k = only_register (register_at k)

-- the base register; none says 0
abbrev pub base_part : Base → Noted ℕ
base_part (base.Register k) = plain_register k
base_part _ = fine 0

-- the index register; none says 0
abbrev pub index_part : Index → Noted ℕ
index_part (index.Scaled k s) = plain_register k
index_part index.Nothing = fine 0

-- the scale as a power of 2
abbrev pub scale_part : Index → ℕ
scale_part (index.Scaled k s) = s
scale_part index.Nothing = 0

-- an address of a mode and its parts; no mode is a fault of form
abbrev pub address_by : Option Mode → Front → Base → Index → Noted Ea
address_by None f b i = wrong fault.Form no_address
address_by (Some m) f b i = record {
  value = record {
    mode = m;
    base = (base_part b).value;
    index = (index_part i).value;
    scale = scale_part i;
    disp = (disp_part f).value;
  };
  fault = least (base_part b).fault (least (index_part i).fault (disp_part f).fault);
}

-- the same, where the index was read
abbrev pub with_index : Bool → Front → Base → Option Index → Noted Ea
with_index forced f b None = wrong fault.Form no_address
with_index forced f b (Some i) = address_by (mode_of forced f b i) f b i

-- the same, where the base was read
abbrev pub with_base : Bool → Front → Option (Base × List ℕ) → Noted Ea
with_base forced f None = wrong fault.Form no_address
with_base forced f (Some b) = with_index forced f b.0 (index_of b.1)

-- an address behind `!`, or without it
unfoldable pub address_behind : Bool → Names → List ℕ → Noted Ea
address_behind forced names s = with_base forced (front_of names (before opens s)) (base_of (from opens s))

-- the address that a text says
unfoldable pub address_of : Names → List ℕ → Noted Ea
address_of names [] = address_behind false names []
address_of names (b ∷ s) = if b == bang then address_behind true names s else address_behind false names (b ∷ s)
