-- Instructions: their operands in the order of the row.
use Rattle.std.specs.Prelude.{ℕ, Bool, true, false, List, [], ◌∷◌, ◌++◌, Option, Some, None, ℤ, pos, if◌then◌else◌}
use Rattle.i9_isa.specs.declared.op.Op.{Op}
use Rattle.i9_isa.specs.declared.inst.Operand.{Operand}
use Rattle.i9_isa.specs.declared.inst.Operand.TheVariants.{Reg}
use Rattle.i9_isa.specs.declared.inst.Ea.{Ea}
use Rattle.i9_isa.specs.declared.inst.Inst.{Inst}
use Rattle.i9_isa.specs.declared.format.Row.{Row}
use Rattle.i9_isa.specs.declared.format.Format.{Format}
use Rattle.i9_isa.specs.declared.format.Format.TheVariants as format
use Rattle.i9_isa.specs.declared.format.Use.{Use}
use Rattle.i9_isa.specs.declared.format.Use.TheVariants.{Unused, Store}
use Rattle.i9_isa.specs.Operands.{no_address}
use Rattle.i9_isa.specs.Table.{row_of}
use Rattle.i9_statement.specs.declared.fault.Noted.{Noted}
use Rattle.i9_statement.specs.declared.fault.Fault.{Fault}
use Rattle.i9_statement.specs.declared.fault.Fault.TheVariants as fault
use Rattle.i9_statement.specs.Noted.{fine, wrong, least}
use Rattle.i9_statement.specs.Values.{Names}
use Rattle.i9_statement.specs.Operands.{operand_of}
use Rattle.i9_statement.specs.Addresses.{address_of}
use Rattle.i9_statement.specs.Targets.{target_of}
use Rattle.i9_statement.specs.Printed.{operand_text, address_text, target_text}

-- operands that are left to read
abbrev pub Fields : Type 0
Fields = List (List ℕ)

-- A part of the operands that is read: what it is, and the operands that are left.
abbrev pub Taken : Type 0 → Type 0
Taken X = Noted X × Fields

-- the operand of a use, where the use has one
abbrev pub take_operand : Use → Names → Fields → Taken Operand
take_operand Unused names fs = (fine (Reg 0), fs)
take_operand u names [] = (wrong fault.Form (Reg 0), [])
take_operand u names (f ∷ fs) = (operand_of u names f, fs)

-- the address, in the memory format
abbrev pub take_address : Format → Names → Fields → Taken Ea
take_address format.Mem names [] = (wrong fault.Form no_address, [])
take_address format.Mem names (f ∷ fs) = (address_of names f, fs)
take_address _ names fs = (fine no_address, fs)

-- the displacement, where the row has one
abbrev pub take_target : Bool → ℕ → Format → Names → Fields → Taken ℤ
take_target false ip f names fs = (fine (pos 0), fs)
take_target true ip f names [] = (wrong fault.Form (pos 0), [])
take_target true ip f names (t ∷ fs) = (target_of ip f names t, fs)

-- in the memory format what is stored stands before the address, and what is loaded behind it
abbrev pub comes_first : Format → Use → Bool
comes_first format.Mem (Store n) = true
comes_first _ _ = false

-- the use of src/dst before the address, and at the end
abbrev pub first_use : Row → Use
first_use r = if comes_first r.format r.c then r.c else Unused

abbrev pub last_use : Row → Use
last_use r = if comes_first r.format r.c then Unused else r.c

-- nothing is left
abbrev pub left_over : Fields → Option Fault
left_over [] = None
left_over (f ∷ fs) = Some fault.Form

-- of src/dst read in two places that which was
abbrev pub chosen : Bool → Operand → Operand → Operand
chosen b first last = if b then first else last

-- the instruction at ip that a name and operands say, one part after the other
unfoldable pub instruction_of : ℕ → Op → Bool → Names → Fields → Noted Inst
instruction_of ip op hint names fs =
    let r = row_of op in
    let a = take_operand r.a names fs in
    let b = take_operand r.b names a.1 in
    let first = take_operand (first_use r) names b.1 in
    let ea = take_address r.format names first.1 in
    let disp = take_target r.disp ip r.format names ea.1 in
    let last = take_operand (last_use r) names disp.1 in
    record {
      value = record {
        op = op;
        a = a.0.value;
        b = b.0.value;
        c = chosen (comes_first r.format r.c) first.0.value last.0.value;
        ea = ea.0.value;
        disp = disp.0.value;
        hint = hint;
      };
      fault = least a.0.fault (least b.0.fault (least first.0.fault
          (least ea.0.fault (least disp.0.fault (least last.0.fault (left_over last.1))))));
    }

-- ---- printed

abbrev pub operand_field : Use → Operand → Fields
operand_field Unused o = []
operand_field u o = operand_text o ∷ []

-- the address, in the memory format
abbrev pub address_field : Format → Ea → Fields
address_field format.Mem e = address_text e ∷ []
address_field _ e = []

-- the target, where the row has a displacement
abbrev pub target_field : Bool → ℕ → ℤ → Fields
target_field true ip z = target_text ip z ∷ []
target_field false ip z = []

-- the operands of an instruction at ip, in their order
unfoldable pub operand_fields : ℕ → Inst → Fields
operand_fields ip i = let r = row_of i.op in
    operand_field r.a i.a ++ (operand_field r.b i.b ++ (operand_field (first_use r) i.c
    ++ (address_field r.format i.ea ++ (target_field r.disp ip i.disp ++ operand_field (last_use r) i.c))))
