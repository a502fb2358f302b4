-- The resources of an instruction: the 32 registers, and the condition code. What a call, a return or a flush reads
-- of the frame isn't named, since these wait for everything before them.
use Rattle.std.specs.Prelude.{◌≡◌, ℕ, ◌+◌, ◌==◌, nat_le, nat_lt, ◌&&◌, ◌||◌, Bool, true, false}
use Rattle.std.specs.Int.{bit_at, from_bool}
use Rattle.i9_isa.specs.declared.op.Op.{Op}
use Rattle.i9_isa.specs.declared.op.Op.TheVariants.{Alterbit, Cmpinco, Cmpinci, Cmpdeco, Cmpdeci, Addc, Subc, Modac}
use Rattle.i9_isa.specs.declared.op.Op.TheVariants.{Spanbit, Scanbit, Cmpo, Cmpi, Concmpo, Concmpi, Scanbyte, Chkbit}
use Rattle.i9_isa.specs.declared.op.Op.TheVariants.{Sysctl, Calls, Testno, Testg, Teste, Testge, Testl, Testne, Testle}
use Rattle.i9_isa.specs.declared.op.Op.TheVariants.{Testo, Bbc, Cmpobg, Cmpobe, Cmpobge, Cmpobl, Cmpobne, Cmpoble, Bbs}
use Rattle.i9_isa.specs.declared.op.Op.TheVariants.{Cmpibno, Cmpibg, Cmpibe, Cmpibge, Cmpibl, Cmpibne, Cmpible, Cmpibo}
use Rattle.i9_isa.specs.declared.op.Op.TheVariants.{Call, Ret, Bal, Bno, Bg, Be, Bge, Bl, Bne, Ble, Bo, Faultno, Faultg}
use Rattle.i9_isa.specs.declared.op.Op.TheVariants.{Faulte, Faultge, Faultl, Faultne, Faultle, Faulto, Callx}
use Rattle.i9_isa.specs.declared.inst.Operand.{Operand}
use Rattle.i9_isa.specs.declared.inst.Operand.TheVariants.{Reg, Lit, Sfr}
use Rattle.i9_isa.specs.declared.inst.Inst.{Inst}
use Rattle.i9_isa.specs.declared.resources.TheConstants.{CONDITION_CODE, LINK, FRAME_POINTER, LOCALS}
use Rattle.i9_isa.specs.Operands.{words_read, words_written, has_base, has_index}
use Rattle.i9_isa.specs.Table.{row_of}

-- a set of resources as a number: bit k is set exactly where k is in the set
abbrev pub IsSetOf : ℕ → (ℕ → Bool) → Type 0
IsSetOf bits p = (k : ℕ) → bit_at bits k ≡ from_bool (p k)

-- k is one of so many registers from `first` up
abbrev pub is_in_group : ℕ → ℕ → ℕ → Bool
is_in_group first count k = nat_le first k && nat_lt k (first + count)

-- register k is one of the words of an operand; literals and special function registers have none
abbrev pub is_in_operand : Operand → ℕ → ℕ → Bool
is_in_operand (Reg r) count k = is_in_group r count k
is_in_operand (Lit l) count k = false
is_in_operand (Sfr s) count k = false

-- The condition code is an input: alterbit copies its bit 1; addc and subc take the carry in bit 1; concmpo and
-- concmpi do nothing where bit 2 is set; tests, conditional branches and conditional faults compare it with their
-- mask; modac answers the old controls. A compare and branch tests the code that it has just made, so it is no input
-- there.
abbrev pub reads_code : Op → Bool
reads_code Alterbit = true
reads_code Addc = true
reads_code Subc = true
reads_code Concmpo = true
reads_code Concmpi = true
reads_code Modac = true
reads_code Testno = true
reads_code Testg = true
reads_code Teste = true
reads_code Testge = true
reads_code Testl = true
reads_code Testne = true
reads_code Testle = true
reads_code Testo = true
reads_code Bno = true
reads_code Bg = true
reads_code Be = true
reads_code Bge = true
reads_code Bl = true
reads_code Bne = true
reads_code Ble = true
reads_code Bo = true
reads_code Faultno = true
reads_code Faultg = true
reads_code Faulte = true
reads_code Faultge = true
reads_code Faultl = true
reads_code Faultne = true
reads_code Faultle = true
reads_code Faulto = true
reads_code _ = false

-- The condition code is a result: of compares, also those that count up or down or hold under a condition; of chkbit
-- and scanbyte; of spanbit and scanbit, which say whether there is such a bit; of addc and subc, the carry and the
-- overflow; of a branch on a bit or a comparison. modac changes the controls, a return may take them from the frame,
-- and sysctl may start the processor again. Overflow of the other sums is a flag outside of the code.
abbrev pub writes_code : Op → Bool
writes_code Cmpo = true
writes_code Cmpi = true
writes_code Cmpinco = true
writes_code Cmpinci = true
writes_code Cmpdeco = true
writes_code Cmpdeci = true
writes_code Concmpo = true
writes_code Concmpi = true
writes_code Chkbit = true
writes_code Scanbyte = true
writes_code Spanbit = true
writes_code Scanbit = true
writes_code Addc = true
writes_code Subc = true
writes_code Bbc = true
writes_code Bbs = true
writes_code Cmpobg = true
writes_code Cmpobe = true
writes_code Cmpobge = true
writes_code Cmpobl = true
writes_code Cmpobne = true
writes_code Cmpoble = true
writes_code Cmpibno = true
writes_code Cmpibg = true
writes_code Cmpibe = true
writes_code Cmpibge = true
writes_code Cmpibl = true
writes_code Cmpibne = true
writes_code Cmpible = true
writes_code Cmpibo = true
writes_code Modac = true
writes_code Ret = true
writes_code Sysctl = true
writes_code _ = false

-- a call, a return, or sysctl, which may start the processor again: these give new local registers and a new frame
-- pointer
abbrev pub changes_frame : Op → Bool
changes_frame Call = true
changes_frame Callx = true
changes_frame Calls = true
changes_frame Ret = true
changes_frame Sysctl = true
changes_frame _ = false

-- bal keeps the next address in the link register
abbrev pub writes_link : Op → Bool
writes_link Bal = true
writes_link _ = false

-- a local register or the frame pointer
abbrev pub is_in_frame : ℕ → Bool
is_in_frame k = is_in_group 0 LOCALS k || (k == FRAME_POINTER)

-- resource k is read: as an operand, for the address, or as the condition code
abbrev pub is_read : Inst → ℕ → Bool
is_read i k =
    is_in_operand i.a (words_read (row_of i.op).a) k
    || is_in_operand i.b (words_read (row_of i.op).b) k
    || is_in_operand i.c (words_read (row_of i.op).c) k
    || (has_base i.ea.mode && (k == i.ea.base))
    || (has_index i.ea.mode && (k == i.ea.index))
    || (reads_code i.op && (k == CONDITION_CODE))

-- resource k is written: as an operand (src1 for a test), as the link, as part of the frame, or as the condition code
abbrev pub is_written : Inst → ℕ → Bool
is_written i k =
    is_in_operand i.a (words_written (row_of i.op).a) k
    || is_in_operand i.c (words_written (row_of i.op).c) k
    || (writes_link i.op && (k == LINK))
    || (changes_frame i.op && is_in_frame k)
    || (writes_code i.op && (k == CONDITION_CODE))
