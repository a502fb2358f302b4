-- The instruction table: one row for each name.
use Rattle.std.specs.Prelude.{ℕ, Bool, true, false, List, [], ◌∷◌}
use Rattle.i9_isa.specs.declared.op.Op.{Op}
use Rattle.i9_isa.specs.declared.op.Op.TheVariants.{Notbit, And, Andnot, Setbit, Notand, Xor, Or, Nor, Xnor, Ornot}
use Rattle.i9_isa.specs.declared.op.Op.TheVariants.{Clrbit, Notor, Nand, Alterbit, Addo, Addi, Subo, Subi, Shro, Shrdi}
use Rattle.i9_isa.specs.declared.op.Op.TheVariants.{Shri, Shlo, Rotate, Shli, Cmpinco, Cmpinci, Cmpdeco, Cmpdeci, Addc}
use Rattle.i9_isa.specs.declared.op.Op.TheVariants.{Subc, Atadd, Modac, Modtc, Emul, Ediv, Mulo, Remo, Divo, Muli, Remi}
use Rattle.i9_isa.specs.declared.op.Op.TheVariants.{Modi, Divi, Not, Mov, Movl, Movt, Movq, Spanbit, Scanbit, Cmpo}
use Rattle.i9_isa.specs.declared.op.Op.TheVariants.{Cmpi, Concmpo, Concmpi, Scanbyte, Chkbit, Atmod, Modify, Extract}
use Rattle.i9_isa.specs.declared.op.Op.TheVariants.{Modpc, Sdma, Sysctl, Calls, Udma, Mark, Fmark, Flushreg, Syncf}
use Rattle.i9_isa.specs.declared.op.Op.TheVariants.{Testno, Testg, Teste, Testge, Testl, Testne, Testle, Testo, Bbc}
use Rattle.i9_isa.specs.declared.op.Op.TheVariants.{Cmpobg, Cmpobe, Cmpobge, Cmpobl, Cmpobne, Cmpoble, Bbs, Cmpibno}
use Rattle.i9_isa.specs.declared.op.Op.TheVariants.{Cmpibg, Cmpibe, Cmpibge, Cmpibl, Cmpibne, Cmpible, Cmpibo, B, Call}
use Rattle.i9_isa.specs.declared.op.Op.TheVariants.{Ret, Bal, Bno, Bg, Be, Bge, Bl, Bne, Ble, Bo, Faultno, Faultg}
use Rattle.i9_isa.specs.declared.op.Op.TheVariants.{Faulte, Faultge, Faultl, Faultne, Faultle, Faulto, Ldob, Stob, Bx}
use Rattle.i9_isa.specs.declared.op.Op.TheVariants.{Balx, Callx, Ldos, Stos, Lda, Ld, St, Ldl, Stl, Ldt, Stt, Ldq, Stq}
use Rattle.i9_isa.specs.declared.op.Op.TheVariants.{Ldib, Stib, Ldis, Stis}
use Rattle.i9_isa.specs.declared.format.Row.{Row}
use Rattle.i9_isa.specs.declared.format.Format.TheVariants as Format
use Rattle.i9_isa.specs.declared.format.Use.{Use}
use Rattle.i9_isa.specs.declared.format.Use.TheVariants.{Unused, Source, Left, Right, Destination, Load, Store, Change}

-- a row of the register format: opcode, extension, and the uses of src1, src2 and src/dst
abbrev pub reg_row : ℕ → ℕ → Use → Use → Use → Row
reg_row o e a b c = record
    { opcode = o; extension = e; format = Format.Reg; a = a; b = b; c = c; disp = false; hint = false }

-- a row of the compare-and-branch format that writes the register of src1 and uses nothing else
abbrev pub test_row : ℕ → Row
test_row o = record {
  opcode = o;
  extension = 0;
  format = Format.Cobr;
  a = Load 1;
  b = Unused;
  c = Unused;
  disp = false;
  hint = false;
}

-- a row of the compare-and-branch format with two sources, a displacement and a prediction
abbrev pub branch_row : ℕ → Row
branch_row o = record
    { opcode = o; extension = 0; format = Format.Cobr; a = Left; b = Right; c = Unused; disp = true; hint = true }

-- a row of the control format, with or without a displacement and a prediction
abbrev pub ctrl_row : ℕ → Bool → Bool → Row
ctrl_row o disp hint = record
    { opcode = o; extension = 0; format = Format.Ctrl; a = Unused; b = Unused; c = Unused; disp = disp; hint = hint }

-- a row of the memory format: what is done with src/dst
abbrev pub mem_row : ℕ → Use → Row
mem_row o c = record {
  opcode = o;
  extension = 0;
  format = Format.Mem;
  a = Unused;
  b = Unused;
  c = c;
  disp = false;
  hint = false;
}

-- the row of each name
abbrev pub row_of : Op → Row
-- register format: two sources and a destination
row_of Notbit = reg_row 0x58 0x0 (Source 1) (Source 1) (Destination 1)
row_of And = reg_row 0x58 0x1 (Source 1) (Source 1) (Destination 1)
row_of Andnot = reg_row 0x58 0x2 (Source 1) (Source 1) (Destination 1)
row_of Setbit = reg_row 0x58 0x3 (Source 1) (Source 1) (Destination 1)
row_of Notand = reg_row 0x58 0x4 (Source 1) (Source 1) (Destination 1)
row_of Xor = reg_row 0x58 0x6 (Source 1) (Source 1) (Destination 1)
row_of Or = reg_row 0x58 0x7 (Source 1) (Source 1) (Destination 1)
row_of Nor = reg_row 0x58 0x8 (Source 1) (Source 1) (Destination 1)
row_of Xnor = reg_row 0x58 0x9 (Source 1) (Source 1) (Destination 1)
row_of Ornot = reg_row 0x58 0xB (Source 1) (Source 1) (Destination 1)
row_of Clrbit = reg_row 0x58 0xC (Source 1) (Source 1) (Destination 1)
row_of Notor = reg_row 0x58 0xD (Source 1) (Source 1) (Destination 1)
row_of Nand = reg_row 0x58 0xE (Source 1) (Source 1) (Destination 1)
row_of Alterbit = reg_row 0x58 0xF (Source 1) (Source 1) (Destination 1)
row_of Addo = reg_row 0x59 0x0 (Source 1) (Source 1) (Destination 1)
row_of Addi = reg_row 0x59 0x1 (Source 1) (Source 1) (Destination 1)
row_of Subo = reg_row 0x59 0x2 (Source 1) (Source 1) (Destination 1)
row_of Subi = reg_row 0x59 0x3 (Source 1) (Source 1) (Destination 1)
row_of Shro = reg_row 0x59 0x8 (Source 1) (Source 1) (Destination 1)
row_of Shrdi = reg_row 0x59 0xA (Source 1) (Source 1) (Destination 1)
row_of Shri = reg_row 0x59 0xB (Source 1) (Source 1) (Destination 1)
row_of Shlo = reg_row 0x59 0xC (Source 1) (Source 1) (Destination 1)
row_of Rotate = reg_row 0x59 0xD (Source 1) (Source 1) (Destination 1)
row_of Shli = reg_row 0x59 0xE (Source 1) (Source 1) (Destination 1)
row_of Cmpinco = reg_row 0x5A 0x4 (Source 1) (Source 1) (Destination 1)
row_of Cmpinci = reg_row 0x5A 0x5 (Source 1) (Source 1) (Destination 1)
row_of Cmpdeco = reg_row 0x5A 0x6 (Source 1) (Source 1) (Destination 1)
row_of Cmpdeci = reg_row 0x5A 0x7 (Source 1) (Source 1) (Destination 1)
row_of Addc = reg_row 0x5B 0x0 (Source 1) (Source 1) (Destination 1)
row_of Subc = reg_row 0x5B 0x2 (Source 1) (Source 1) (Destination 1)
row_of Atadd = reg_row 0x61 0x2 (Source 1) (Source 1) (Destination 1)
row_of Modac = reg_row 0x64 0x5 (Source 1) (Source 1) (Destination 1)
row_of Modtc = reg_row 0x65 0x4 (Source 1) (Source 1) (Destination 1)
row_of Emul = reg_row 0x67 0x0 (Source 1) (Source 1) (Destination 2)
row_of Ediv = reg_row 0x67 0x1 (Source 1) (Source 2) (Destination 2)
row_of Mulo = reg_row 0x70 0x1 (Source 1) (Source 1) (Destination 1)
row_of Remo = reg_row 0x70 0x8 (Source 1) (Source 1) (Destination 1)
row_of Divo = reg_row 0x70 0xB (Source 1) (Source 1) (Destination 1)
row_of Muli = reg_row 0x74 0x1 (Source 1) (Source 1) (Destination 1)
row_of Remi = reg_row 0x74 0x8 (Source 1) (Source 1) (Destination 1)
row_of Modi = reg_row 0x74 0x9 (Source 1) (Source 1) (Destination 1)
row_of Divi = reg_row 0x74 0xB (Source 1) (Source 1) (Destination 1)
-- register format: a source and a destination
row_of Not = reg_row 0x58 0xA (Source 1) Unused (Destination 1)
row_of Mov = reg_row 0x5C 0xC (Source 1) Unused (Destination 1)
row_of Movl = reg_row 0x5D 0xC (Source 2) Unused (Destination 2)
row_of Movt = reg_row 0x5E 0xC (Source 3) Unused (Destination 3)
row_of Movq = reg_row 0x5F 0xC (Source 4) Unused (Destination 4)
row_of Spanbit = reg_row 0x64 0x0 (Source 1) Unused (Destination 1)
row_of Scanbit = reg_row 0x64 0x1 (Source 1) Unused (Destination 1)
-- register format: two sources
row_of Cmpo = reg_row 0x5A 0x0 (Source 1) (Source 1) Unused
row_of Cmpi = reg_row 0x5A 0x1 (Source 1) (Source 1) Unused
row_of Concmpo = reg_row 0x5A 0x2 (Source 1) (Source 1) Unused
row_of Concmpi = reg_row 0x5A 0x3 (Source 1) (Source 1) Unused
row_of Scanbyte = reg_row 0x5A 0xC (Source 1) (Source 1) Unused
row_of Chkbit = reg_row 0x5A 0xE (Source 1) (Source 1) Unused
-- register format: two sources and a register that is read and written
row_of Atmod = reg_row 0x61 0x0 (Source 1) (Source 1) Change
row_of Modify = reg_row 0x65 0x0 (Source 1) (Source 1) Change
row_of Extract = reg_row 0x65 0x1 (Source 1) (Source 1) Change
row_of Modpc = reg_row 0x65 0x5 (Source 1) (Source 1) Change
-- register format: three sources
row_of Sdma = reg_row 0x63 0x0 (Source 1) (Source 1) (Store 3)
row_of Sysctl = reg_row 0x65 0x9 (Source 1) (Source 1) (Store 1)
-- register format: one source
row_of Calls = reg_row 0x66 0x0 (Source 1) Unused Unused
-- register format: no operand
row_of Udma = reg_row 0x63 0x1 Unused Unused Unused
row_of Mark = reg_row 0x66 0xB Unused Unused Unused
row_of Fmark = reg_row 0x66 0xC Unused Unused Unused
row_of Flushreg = reg_row 0x66 0xD Unused Unused Unused
row_of Syncf = reg_row 0x66 0xF Unused Unused Unused
-- compare-and-branch format: tests of the condition code
row_of Testno = test_row 0x20
row_of Testg = test_row 0x21
row_of Teste = test_row 0x22
row_of Testge = test_row 0x23
row_of Testl = test_row 0x24
row_of Testne = test_row 0x25
row_of Testle = test_row 0x26
row_of Testo = test_row 0x27
-- compare-and-branch format: compare and branch
row_of Bbc = branch_row 0x30
row_of Cmpobg = branch_row 0x31
row_of Cmpobe = branch_row 0x32
row_of Cmpobge = branch_row 0x33
row_of Cmpobl = branch_row 0x34
row_of Cmpobne = branch_row 0x35
row_of Cmpoble = branch_row 0x36
row_of Bbs = branch_row 0x37
row_of Cmpibno = branch_row 0x38
row_of Cmpibg = branch_row 0x39
row_of Cmpibe = branch_row 0x3A
row_of Cmpibge = branch_row 0x3B
row_of Cmpibl = branch_row 0x3C
row_of Cmpibne = branch_row 0x3D
row_of Cmpible = branch_row 0x3E
row_of Cmpibo = branch_row 0x3F
-- control format: branches, calls and returns
row_of B = ctrl_row 0x08 true false
row_of Call = ctrl_row 0x09 true false
row_of Ret = ctrl_row 0x0A false false
row_of Bal = ctrl_row 0x0B true false
row_of Bno = ctrl_row 0x10 true true
row_of Bg = ctrl_row 0x11 true true
row_of Be = ctrl_row 0x12 true true
row_of Bge = ctrl_row 0x13 true true
row_of Bl = ctrl_row 0x14 true true
row_of Bne = ctrl_row 0x15 true true
row_of Ble = ctrl_row 0x16 true true
row_of Bo = ctrl_row 0x17 true true
-- control format: faults on a condition
row_of Faultno = ctrl_row 0x18 false false
row_of Faultg = ctrl_row 0x19 false false
row_of Faulte = ctrl_row 0x1A false false
row_of Faultge = ctrl_row 0x1B false false
row_of Faultl = ctrl_row 0x1C false false
row_of Faultne = ctrl_row 0x1D false false
row_of Faultle = ctrl_row 0x1E false false
row_of Faulto = ctrl_row 0x1F false false
-- memory format: loads, stores and addresses
row_of Ldob = mem_row 0x80 (Load 1)
row_of Stob = mem_row 0x82 (Store 1)
row_of Bx = mem_row 0x84 Unused
row_of Balx = mem_row 0x85 (Load 1)
row_of Callx = mem_row 0x86 Unused
row_of Ldos = mem_row 0x88 (Load 1)
row_of Stos = mem_row 0x8A (Store 1)
row_of Lda = mem_row 0x8C (Load 1)
row_of Ld = mem_row 0x90 (Load 1)
row_of St = mem_row 0x92 (Store 1)
row_of Ldl = mem_row 0x98 (Load 2)
row_of Stl = mem_row 0x9A (Store 2)
row_of Ldt = mem_row 0xA0 (Load 3)
row_of Stt = mem_row 0xA2 (Store 3)
row_of Ldq = mem_row 0xB0 (Load 4)
row_of Stq = mem_row 0xB2 (Store 4)
row_of Ldib = mem_row 0xC0 (Load 1)
row_of Stib = mem_row 0xC2 (Store 1)
row_of Ldis = mem_row 0xC8 (Load 1)
row_of Stis = mem_row 0xCA (Store 1)

-- all names
abbrev pub names : List Op
names =
    Notbit ∷ And ∷ Andnot ∷ Setbit ∷ Notand ∷ Xor ∷ Or ∷ Nor ∷ Xnor ∷ Ornot ∷ Clrbit ∷ Notor ∷ Nand ∷ Alterbit ∷
    Addo ∷ Addi ∷ Subo ∷ Subi ∷ Shro ∷ Shrdi ∷ Shri ∷ Shlo ∷ Rotate ∷ Shli ∷ Cmpinco ∷ Cmpinci ∷ Cmpdeco ∷ Cmpdeci ∷
    Addc ∷ Subc ∷ Atadd ∷ Modac ∷ Modtc ∷ Emul ∷ Ediv ∷ Mulo ∷ Remo ∷ Divo ∷ Muli ∷ Remi ∷ Modi ∷ Divi ∷ Not ∷ Mov ∷
    Movl ∷ Movt ∷ Movq ∷ Spanbit ∷ Scanbit ∷ Cmpo ∷ Cmpi ∷ Concmpo ∷ Concmpi ∷ Scanbyte ∷ Chkbit ∷ Atmod ∷ Modify ∷
    Extract ∷ Modpc ∷ Sdma ∷ Sysctl ∷ Calls ∷ Udma ∷ Mark ∷ Fmark ∷ Flushreg ∷ Syncf ∷ Testno ∷ Testg ∷ Teste ∷
    Testge ∷ Testl ∷ Testne ∷ Testle ∷ Testo ∷ Bbc ∷ Cmpobg ∷ Cmpobe ∷ Cmpobge ∷ Cmpobl ∷ Cmpobne ∷ Cmpoble ∷ Bbs ∷
    Cmpibno ∷ Cmpibg ∷ Cmpibe ∷ Cmpibge ∷ Cmpibl ∷ Cmpibne ∷ Cmpible ∷ Cmpibo ∷ B ∷ Call ∷ Ret ∷ Bal ∷ Bno ∷ Bg ∷
    Be ∷ Bge ∷ Bl ∷ Bne ∷ Ble ∷ Bo ∷ Faultno ∷ Faultg ∷ Faulte ∷ Faultge ∷ Faultl ∷ Faultne ∷ Faultle ∷ Faulto ∷
    Ldob ∷ Stob ∷ Bx ∷ Balx ∷ Callx ∷ Ldos ∷ Stos ∷ Lda ∷ Ld ∷ St ∷ Ldl ∷ Stl ∷ Ldt ∷ Stt ∷ Ldq ∷ Stq ∷ Ldib ∷
    Stib ∷ Ldis ∷ Stis ∷ []
