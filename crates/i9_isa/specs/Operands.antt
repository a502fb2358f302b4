-- What an operand and an effective address may be.
use Rattle.std.specs.Prelude.{ℕ, ◌%◌, ◌^◌, ◌==◌, nat_lt, ◌&&◌, Bool, true, false, if◌then◌else◌}
use Rattle.i9_isa.specs.declared.inst.Operand.{Operand}
use Rattle.i9_isa.specs.declared.inst.Operand.TheVariants.{Reg, Lit, Sfr}
use Rattle.i9_isa.specs.declared.inst.Mode.{Mode}
use Rattle.i9_isa.specs.declared.inst.Mode.TheVariants.{Offset, BaseOffset, Base, Ip, BaseIndex, Disp, BaseDisp}
use Rattle.i9_isa.specs.declared.inst.Mode.TheVariants.{IndexDisp, BaseIndexDisp}
use Rattle.i9_isa.specs.declared.inst.Ea.{Ea}
use Rattle.i9_isa.specs.declared.format.Use.{Use}
use Rattle.i9_isa.specs.declared.format.Use.TheVariants.{Unused, Source, Left, Right, Destination, Load, Store, Change}

abbrev pub is_unused : Use → Bool
is_unused Unused = true
is_unused _ = false

-- a group of so many words may begin at this register: a pair at an even one, three or four at a multiple of 4
abbrev pub starts_group : ℕ → ℕ → Bool
starts_group words r = nat_lt r 32 && (if words == 1 then true else if words == 2 then r % 2 == 0 else r % 4 == 0)

-- special function registers are sf0 to sf2, and only where one word is used
abbrev pub is_special : ℕ → ℕ → Bool
is_special words s = words == 1 && nat_lt s 3

-- a use allows this operand; what isn't used stands as register 0
abbrev pub takes : Use → Operand → Bool
takes Unused (Reg r) = r == 0
takes (Source n) (Reg r) = starts_group n r
takes (Source n) (Lit l) = nat_lt l 32
takes (Source n) (Sfr s) = is_special n s
takes Left (Reg r) = nat_lt r 32
takes Left (Lit l) = nat_lt l 32
takes Right (Reg r) = nat_lt r 32
takes Right (Sfr s) = nat_lt s 3
takes (Destination n) (Reg r) = starts_group n r
takes (Destination n) (Sfr s) = is_special n s
takes (Load n) (Reg r) = starts_group n r
takes (Store n) (Reg r) = starts_group n r
takes Change (Reg r) = nat_lt r 32
takes _ _ = false

-- how many registers a use reads
abbrev pub words_read : Use → ℕ
words_read (Source n) = n
words_read Left = 1
words_read Right = 1
words_read (Store n) = n
words_read Change = 1
words_read _ = 0

-- how many registers a use writes
abbrev pub words_written : Use → ℕ
words_written (Destination n) = n
words_written (Load n) = n
words_written Change = 1
words_written _ = 0

-- the number in an operand's field
abbrev pub field_number : Operand → ℕ
field_number (Reg n) = n
field_number (Lit n) = n
field_number (Sfr n) = n

-- the mode has a base register
abbrev pub has_base : Mode → Bool
has_base BaseOffset = true
has_base Base = true
has_base BaseIndex = true
has_base BaseDisp = true
has_base BaseIndexDisp = true
has_base _ = false

-- the mode has a scaled index
abbrev pub has_index : Mode → Bool
has_index BaseIndex = true
has_index IndexDisp = true
has_index BaseIndexDisp = true
has_index _ = false

-- the mode has a displacement of 32 bits, in a second word
abbrev pub has_disp : Mode → Bool
has_disp Ip = true
has_disp Disp = true
has_disp BaseDisp = true
has_disp IndexDisp = true
has_disp BaseIndexDisp = true
has_disp _ = false

-- the mode has an offset of 12 bits
abbrev pub has_offset : Mode → Bool
has_offset Offset = true
has_offset BaseOffset = true
has_offset _ = false

-- what a displacement or offset of the mode is below
abbrev pub disp_limit : Mode → ℕ
disp_limit m = if has_disp m then 2 ^ 32 else if has_offset m then 2 ^ 12 else 1

-- the parts of an address that its mode has are in range (a scale is at most 4), and the others are 0
abbrev pub is_address : Ea → Bool
is_address e =
    nat_lt e.base (if has_base e.mode then 32 else 1)
    && (nat_lt e.index (if has_index e.mode then 32 else 1)
    && (nat_lt e.scale (if has_index e.mode then 5 else 1)
    && nat_lt e.disp (disp_limit e.mode)))

-- what stands where a name has no address
abbrev pub no_address : Ea
no_address = record { mode = Offset; base = 0; index = 0; scale = 0; disp = 0 }
