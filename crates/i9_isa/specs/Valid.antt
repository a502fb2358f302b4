-- Instructions that have words.
use Rattle.std.specs.Prelude.{◌≡◌, ℕ, ◌%◌, ◌^◌, ◌==◌, nat_lt, ◌&&◌, Bool, true, ℤ, pos, negsuc}
use Rattle.i9_isa.specs.declared.inst.Ea.{Ea}
use Rattle.i9_isa.specs.declared.inst.Inst.{Inst}
use Rattle.i9_isa.specs.declared.format.Format.{Format}
use Rattle.i9_isa.specs.Table.{row_of}
use Rattle.i9_isa.specs.Operands.{takes, is_address, no_address}

-- a multiple of 4 from -n to n - 1; negsuc z is -1 - z
abbrev pub is_within : ℕ → ℤ → Bool
is_within n (pos z) = nat_lt z n && (z % 4 == 0)
is_within n (negsuc z) = nat_lt z n && (z % 4 == 3)

-- the displacement is one of 13 or of 24 bits, by the format; where the row has none it is 0
abbrev pub FitsDisp : Format → Bool → ℤ → Type 0
FitsDisp Format.Cobr true z = is_within (2 ^ 12) z ≡ true
FitsDisp Format.Ctrl true z = is_within (2 ^ 23) z ≡ true
FitsDisp f uses z = z ≡ pos 0

-- the address is one that a memory word has; in the other formats there is none
abbrev pub FitsAddress : Format → Ea → Type 0
FitsAddress Format.Mem e = is_address e ≡ true
FitsAddress f e = e ≡ no_address

-- the fields that the row uses are in range, and the others are as nothing
pub record IsValid (i : Inst) : Type 0 where
  pub a : takes (row_of i.op).a i.a ≡ true
  pub b : takes (row_of i.op).b i.b ≡ true
  pub c : takes (row_of i.op).c i.c ≡ true
  pub ea : FitsAddress (row_of i.op).format i.ea
  pub disp : FitsDisp (row_of i.op).format (row_of i.op).disp i.disp
  pub hint : i.hint ≡ true → (row_of i.op).hint ≡ true
