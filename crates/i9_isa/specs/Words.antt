-- Instruction words: their fields, the operands and the address that they name, and decoding, as a function and as a
-- relation.
use Rattle.std.specs.Prelude.{◌≡◌, ℕ, ◌-◌, ◌*◌, ◌/◌, ◌%◌, ◌^◌, ◌==◌, nat_lt, ◌&&◌, Bool, true, false, if◌then◌else◌, ℤ}
use Rattle.std.specs.Prelude.{pos, ◌-ℤ◌, Option, Some, None, is_some, option_and_then, find, Result, Ok, Err}
use Rattle.i9_isa.specs.declared.op.Op.{Op}
use Rattle.i9_isa.specs.declared.inst.Operand.{Operand}
use Rattle.i9_isa.specs.declared.inst.Operand.TheVariants.{Reg, Lit, Sfr}
use Rattle.i9_isa.specs.declared.inst.Mode.{Mode}
use Rattle.i9_isa.specs.declared.inst.Mode.TheVariants.{Offset, BaseOffset, Base, Ip, BaseIndex, Disp, BaseDisp}
use Rattle.i9_isa.specs.declared.inst.Mode.TheVariants.{IndexDisp, BaseIndexDisp}
use Rattle.i9_isa.specs.declared.inst.Ea.{Ea}
use Rattle.i9_isa.specs.declared.inst.Inst.{Inst}
use Rattle.i9_isa.specs.declared.inst.BadWord.{BadWord}
use Rattle.i9_isa.specs.declared.format.Format.{Format}
use Rattle.i9_isa.specs.declared.format.Use.{Use}
use Rattle.i9_isa.specs.declared.format.Use.TheVariants.{Unused, Source, Left, Right}
use Rattle.i9_isa.specs.Operands.{takes, has_base, has_index, has_disp, has_offset, no_address}
use Rattle.i9_isa.specs.Table.{row_of, names}

-- the words of an addressing mode: a displacement of 32 bits is a second word
abbrev pub words_of_mode : Mode → ℕ
words_of_mode Offset = 1
words_of_mode BaseOffset = 1
words_of_mode Base = 1
words_of_mode BaseIndex = 1
words_of_mode Ip = 2
words_of_mode Disp = 2
words_of_mode BaseDisp = 2
words_of_mode IndexDisp = 2
words_of_mode BaseIndexDisp = 2

-- how many words an instruction has; without an address its mode is Offset
abbrev pub words_of : Inst → ℕ
words_of i = words_of_mode i.ea.mode

-- ---- fields

-- the number in so many bits of a word, from its bit `low` up
abbrev pub field : ℕ → ℕ → ℕ → ℕ
field w low width = w / 2 ^ low % 2 ^ width

-- bit k is set
abbrev pub bit : ℕ → ℕ → Bool
bit w k = field w k 1 == 1

-- a number of so many bits in two's complement
abbrev pub signed_of : ℕ → ℕ → ℤ
signed_of width n = if nat_lt n (2 ^ (width - 1)) then pos n else pos n -ℤ pos (2 ^ width)

-- ---- operands

-- what a field stands for under its bits M and S; a source with both set stands for nothing
abbrev pub operand_by : Use → Bool → Bool → ℕ → Option Operand
operand_by (Source n) true true f = None
operand_by (Source n) true false f = Some (Lit f)
operand_by (Source n) false true f = Some (Sfr f)
operand_by (Source n) false false f = Some (Reg f)
operand_by Left m s f = Some (if m then Lit f else Reg f)
operand_by Right m s f = Some (if s then Sfr f else Reg f)
operand_by _ m s f = Some (if m then Sfr f else Reg f)

-- the operand, if the use allows it
abbrev pub if_taken : Use → Operand → Option Operand
if_taken u o = if takes u o then Some o else None

-- the operand of a use in a field with these bits M and S; an unused one is register 0, whatever the bits are
abbrev pub operand_in : Use → Bool → Bool → ℕ → Option Operand
operand_in Unused m s f = Some (Reg 0)
operand_in u m s f = option_and_then (if_taken u) (operand_by u m s f)

-- src1: M1 and S1 are bits 11 and 5 of the register format, and M1 is bit 13 of the compare-and-branch format
abbrev pub src1_in : Format → Use → ℕ → Option Operand
src1_in Format.Reg u w = operand_in u (bit w 11) (bit w 5) (field w 0 5)
src1_in Format.Cobr u w = operand_in u (bit w 13) false (field w 19 5)
src1_in Format.Ctrl u w = Some (Reg 0)
src1_in Format.Mem u w = Some (Reg 0)

-- src2: M2 and S2 are bits 12 and 6 of the register format, and S2 is bit 0 of the compare-and-branch format
abbrev pub src2_in : Format → Use → ℕ → Option Operand
src2_in Format.Reg u w = operand_in u (bit w 12) (bit w 6) (field w 14 5)
src2_in Format.Cobr u w = operand_in u false (bit w 0) (field w 14 5)
src2_in Format.Ctrl u w = Some (Reg 0)
src2_in Format.Mem u w = Some (Reg 0)

-- src/dst: M3 is bit 13 of the register format
abbrev pub src_dst_in : Format → Use → ℕ → Option Operand
src_dst_in Format.Reg u w = operand_in u (bit w 13) false (field w 19 5)
src_dst_in Format.Cobr u w = Some (Reg 0)
src_dst_in Format.Ctrl u w = Some (Reg 0)
src_dst_in Format.Mem u w = operand_in u false false (field w 19 5)

-- ---- displacement and prediction

-- the displacement, where a row has one: two zero bits stand below its field
abbrev pub disp_in : Format → Bool → ℕ → ℤ
disp_in f false w = pos 0
disp_in Format.Cobr true w = signed_of 13 (field w 2 11 * 4)
disp_in Format.Ctrl true w = signed_of 24 (field w 2 22 * 4)
disp_in f true w = pos 0

-- the prediction, where a row has one
abbrev pub hint_in : Bool → ℕ → Bool
hint_in uses w = uses && bit w 1

-- ---- effective address

-- The mode in bits 13 to 10, of which bit 12 is set: 0100, 0101, 0111, 1100, 1101, 1110 and 1111 in the order below.
-- 0110 is reserved.
abbrev pub long_mode : ℕ → Option Mode
long_mode m =
    if m == 4 then Some Base
    else if m == 5 then Some Ip
    else if m == 7 then Some BaseIndex
    else if m == 12 then Some Disp
    else if m == 13 then Some BaseDisp
    else if m == 14 then Some IndexDisp
    else if m == 15 then Some BaseIndexDisp
    else None

-- the mode of a memory word; with bit 12 clear bit 13 alone decides
abbrev pub mode_in : ℕ → Option Mode
mode_in w = if bit w 12 then long_mode (field w 10 4) else Some (if bit w 13 then BaseOffset else Offset)

-- the address of a mode: what the mode hasn't is 0
abbrev pub address_in : Mode → ℕ → ℕ → Ea
address_in m w w1 = record {
  mode = m;
  base = if has_base m then field w 14 5 else 0;
  index = if has_index m then field w 0 5 else 0;
  scale = if has_index m then field w 7 3 else 0;
  disp = if has_disp m then w1 else if has_offset m then field w 0 12 else 0;
}

-- the address, if its scale is at most 4
abbrev pub if_scaled : Ea → Option Ea
if_scaled e = if nat_lt e.scale 5 then Some e else None

-- the effective address of a first and a second word
abbrev pub ea_in : Format → ℕ → ℕ → Option Ea
ea_in Format.Mem w w1 = option_and_then (λ m. if_scaled (address_in m w w1)) (mode_in w)
ea_in _ w w1 = Some no_address

-- ---- decoding

-- the extension counts in the register format alone
abbrev pub extension_in : Format → ℕ → ℕ
extension_in Format.Reg w = field w 7 4
extension_in _ w = 0

-- the word has the opcode and the extension of this name
abbrev pub is_named : ℕ → Op → Bool
is_named w op = ((row_of op).opcode == field w 24 8) && ((row_of op).extension == extension_in (row_of op).format w)

-- the word has a mode, where its format needs one
abbrev pub has_form : Format → ℕ → Bool
has_form Format.Mem w = is_some (mode_in w)
has_form _ w = true

-- the instruction, if its operands and its address are there
abbrev pub with_operands : Op → Option Operand → Option Operand → Option Operand → Option Ea → ℤ → Bool
    → Result Inst BadWord
with_operands op (Some a) (Some b) (Some c) (Some ea) disp hint =
    Ok (record { op = op; a = a; b = b; c = c; ea = ea; disp = disp; hint = hint })
with_operands op _ _ _ _ disp hint = Err BadWord.Operand

-- the instruction of this name, read by its format and by the uses of its row
abbrev pub read_as : Op → ℕ → ℕ → Result Inst BadWord
read_as op w w1 = let row = row_of op in
    with_operands op
    (src1_in row.format row.a w)
    (src2_in row.format row.b w)
    (src_dst_in row.format row.c w)
    (ea_in row.format w w1)
    (disp_in row.format row.disp w)
    (hint_in row.hint w)

-- the answer, by the name that was found
abbrev pub decoded_as : Option Op → ℕ → ℕ → Result Inst BadWord
decoded_as None w w1 = Err BadWord.Opcode
decoded_as (Some op) w w1 = if has_form (row_of op).format w then read_as op w w1 else Err BadWord.Opcode

-- The instruction of a first and a second word, or why the first is refused.
unfoldable pub decoded : ℕ → ℕ → Result Inst BadWord
decoded w w1 = decoded_as (find (is_named w) names) w w1

-- ---- the same as a relation

-- the word has this name, and a mode where it needs one
pub record HasName (w : ℕ) (op : Op) : Type 0 where
  pub opcode : (row_of op).opcode ≡ field w 24 8
  pub extension : (row_of op).extension ≡ extension_in (row_of op).format w
  pub formed : has_form (row_of op).format w ≡ true

-- the first and the second word are a form of the instruction
pub record Encodes (w w1 : ℕ) (i : Inst) : Type 0 where
  pub name : HasName w i.op
  pub a : src1_in (row_of i.op).format (row_of i.op).a w ≡ Some i.a
  pub b : src2_in (row_of i.op).format (row_of i.op).b w ≡ Some i.b
  pub c : src_dst_in (row_of i.op).format (row_of i.op).c w ≡ Some i.c
  pub ea : ea_in (row_of i.op).format w w1 ≡ Some i.ea
  pub disp : i.disp ≡ disp_in (row_of i.op).format (row_of i.op).disp w
  pub hint : i.hint ≡ hint_in (row_of i.op).hint w
