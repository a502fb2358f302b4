-- A printed instruction is read again: its name, and its operands in the order of the row.
use Rattle.std.proofs.Common.{◌≡◌, ℕ, ◌^◌, ◌<◌, Bool, true, false, cond, [], Some, refl, arith}
use Rattle.std.specs.Prelude.{codes}
use Rattle.std.proofs.lemmas.List.{append-nil}
use Rattle.std.specs.List.{list_all}
use Rattle.std.proofs.lemmas.Bool.{eqb-true}
use Rattle.i9_isa.specs.declared.op.Op.{Op}
use Rattle.i9_isa.specs.declared.op.Op.TheVariants.{Notbit}
use Rattle.i9_isa.specs.declared.inst.Inst.{Inst}
use Rattle.i9_isa.specs.declared.format.Format.{Format}
use Rattle.i9_isa.specs.declared.format.Format.TheVariants as format
use Rattle.i9_isa.specs.Valid.{IsValid}
use Rattle.i9_isa.specs.Table.{row_of}
use Rattle.i9_statement.specs.Noted.{fine}
use Rattle.i9_statement.specs.Cut.{is_byte}
use Rattle.i9_statement.specs.Values.{Names, is_name_byte}
use Rattle.i9_statement.specs.Mnemonics.{mnemonic, op_named, dot, hint_by, named_by, mnemonic_text}
use Rattle.i9_statement.specs.Instructions.{instruction_of, operand_fields}
use Rattle.i9_statement.proofs.Cutting.{stops, before-cut, from-cut, free_in}
use Rattle.i9_statement.proofs.ReadOperands.{operand_of-text}
use Rattle.i9_statement.proofs.ReadAddresses.{address_of-text}
use Rattle.i9_statement.proofs.ReadTargets.{target_of-text}

-- ---- names

-- no other name has the mnemonic of a name
pub op_named-mnemonic : (op : Op) → op_named (mnemonic op) ≡ Some op
unfolding op_named mnemonic
op_named-mnemonic Notbit = refl
op_named-mnemonic _ = refl

pub mnemonic_bytes : (op : Op) → list_all is_name_byte (mnemonic op) ≡ true
unfolding mnemonic
mnemonic_bytes op = grind arith

hint_by-text : (uses hint : Bool) → (hint ≡ true → uses ≡ true) → hint_by uses (cond hint (codes ".f") []) ≡ Some hint
hint_by-text uses hint h = grind arith

suffix_stops : (hint : Bool) → stops (is_byte dot) (cond hint (codes ".f") []) ≡ true
suffix_stops hint = grind arith

pub named_by-text : (op : Op) (hint : Bool) → (hint ≡ true → (row_of op).hint ≡ true) → named_by (mnemonic_text op hint) ≡ Some (op, hint)
unfolding named_by
named_by-text op hint h =
    let suffix = cond hint (codes ".f") [] in
    let free = free_in is_name_byte dot (mnemonic op) refl (mnemonic_bytes op) in
    cc (
      before-cut (is_byte dot) (mnemonic op) suffix free (suffix_stops hint),
      from-cut (is_byte dot) (mnemonic op) suffix free (suffix_stops hint),
      op_named-mnemonic op,
      hint_by-text (row_of op).hint hint h,
    )

-- ---- operands

abbrev pub is_branching : Format → Bool
is_branching format.Cobr = true
is_branching format.Ctrl = true
is_branching _ = false

-- only compare-and-branch and control rows have a displacement
pub disp_branching : (op : Op) → cond (row_of op).disp (is_branching (row_of op).format) true ≡ true
disp_branching op = grind arith

-- the operands of a valid instruction are read again
pub instruction_of-fields : (ip : ℕ) (names : Names) (i : Inst) → ip < 2 ^ 32 → IsValid i → instruction_of ip i.op i.hint names (operand_fields ip i) ≡ fine i
unfolding instruction_of operand_fields
instruction_of-fields ip names i low v =
    grind (arith, append-nil, eqb-true, operand_of-text, address_of-text, target_of-text, disp_branching)
