-- Mnemonics.
use Rattle.std.specs.Prelude.{ℕ, ◌==◌, Bool, true, false, List, [], ◌∷◌, ◌++◌, codes, Option, Some, None, find}
use Rattle.std.specs.Prelude.{if◌then◌else◌}
use Rattle.std.specs.Option.{option_and_then}
use Rattle.std.specs.Str.{bytes_eq}
use Rattle.i9_isa.specs.declared.op.Op.{Op}
use Rattle.i9_isa.specs.declared.op.Op.TheVariants.{Notbit, And, Andnot, Setbit, Notand, Xor, Or, Nor, Xnor, Ornot}
use Rattle.i9_isa.specs.declared.op.Op.TheVariants.{Clrbit, Notor, Nand, Alterbit, Addo, Addi, Subo, Subi, Shro, Shrdi}
use Rattle.i9_isa.specs.declared.op.Op.TheVariants.{Shri, Shlo, Rotate, Shli, Cmpinco, Cmpinci, Cmpdeco, Cmpdeci, Addc}
use Rattle.i9_isa.specs.declared.op.Op.TheVariants.{Subc, Atadd, Modac, Modtc, Emul, Ediv, Mulo, Remo, Divo, Muli, Remi}
use Rattle.i9_isa.specs.declared.op.Op.TheVariants.{Modi, Divi, Not, Mov, Movl, Movt, Movq, Spanbit, Scanbit, Cmpo}
use Rattle.i9_isa.specs.declared.op.Op.TheVariants.{Cmpi, Concmpo, Concmpi, Scanbyte, Chkbit, Atmod, Modify, Extract}
use Rattle.i9_isa.specs.declared.op.Op.TheVariants.{Modpc, Sdma, Sysctl, Calls, Udma, Mark, Fmark, Flushreg, Syncf}
use Rattle.i9_isa.specs.declared.op.Op.TheVariants.{Testno, Testg, Teste, Testge, Testl, Testne, Testle, Testo, Bbc}
use Rattle.i9_isa.specs.declared.op.Op.TheVariants.{Cmpobg, Cmpobe, Cmpobge, Cmpobl, Cmpobne, Cmpoble, Bbs, Cmpibno}
use Rattle.i9_isa.specs.declared.op.Op.TheVariants.{Cmpibg, Cmpibe, Cmpibge, Cmpibl, Cmpibne, Cmpible, Cmpibo, B, Call}
use Rattle.i9_isa.specs.declared.op.Op.TheVariants.{Ret, Bal, Bno, Bg, Be, Bge, Bl, Bne, Ble, Bo, Faultno, Faultg}
use Rattle.i9_isa.specs.declared.op.Op.TheVariants.{Faulte, Faultge, Faultl, Faultne, Faultle, Faulto, Ldob, Stob, Bx}
use Rattle.i9_isa.specs.declared.op.Op.TheVariants.{Balx, Callx, Ldos, Stos, Lda, Ld, St, Ldl, Stl, Ldt, Stt, Ldq, Stq}
use Rattle.i9_isa.specs.declared.op.Op.TheVariants.{Ldib, Stib, Ldis, Stis}
use Rattle.i9_isa.specs.Table.{row_of, names}
use Rattle.i9_statement.specs.Cut.{before, from, is_byte}

-- the mnemonic of each name
unfoldable pub mnemonic : Op → List ℕ
mnemonic Notbit = codes "notbit"
mnemonic And = codes "and"
mnemonic Andnot = codes "andnot"
mnemonic Setbit = codes "setbit"
mnemonic Notand = codes "notand"
mnemonic Xor = codes "xor"
mnemonic Or = codes "or"
mnemonic Nor = codes "nor"
mnemonic Xnor = codes "xnor"
mnemonic Ornot = codes "ornot"
mnemonic Clrbit = codes "clrbit"
mnemonic Notor = codes "notor"
mnemonic Nand = codes "nand"
mnemonic Alterbit = codes "alterbit"
mnemonic Addo = codes "addo"
mnemonic Addi = codes "addi"
mnemonic Subo = codes "subo"
mnemonic Subi = codes "subi"
mnemonic Shro = codes "shro"
mnemonic Shrdi = codes "shrdi"
mnemonic Shri = codes "shri"
mnemonic Shlo = codes "shlo"
mnemonic Rotate = codes "rotate"
mnemonic Shli = codes "shli"
mnemonic Cmpinco = codes "cmpinco"
mnemonic Cmpinci = codes "cmpinci"
mnemonic Cmpdeco = codes "cmpdeco"
mnemonic Cmpdeci = codes "cmpdeci"
mnemonic Addc = codes "addc"
mnemonic Subc = codes "subc"
mnemonic Atadd = codes "atadd"
mnemonic Modac = codes "modac"
mnemonic Modtc = codes "modtc"
mnemonic Emul = codes "emul"
mnemonic Ediv = codes "ediv"
mnemonic Mulo = codes "mulo"
mnemonic Remo = codes "remo"
mnemonic Divo = codes "divo"
mnemonic Muli = codes "muli"
mnemonic Remi = codes "remi"
mnemonic Modi = codes "modi"
mnemonic Divi = codes "divi"
mnemonic Not = codes "not"
mnemonic Mov = codes "mov"
mnemonic Movl = codes "movl"
mnemonic Movt = codes "movt"
mnemonic Movq = codes "movq"
mnemonic Spanbit = codes "spanbit"
mnemonic Scanbit = codes "scanbit"
mnemonic Cmpo = codes "cmpo"
mnemonic Cmpi = codes "cmpi"
mnemonic Concmpo = codes "concmpo"
mnemonic Concmpi = codes "concmpi"
mnemonic Scanbyte = codes "scanbyte"
mnemonic Chkbit = codes "chkbit"
mnemonic Atmod = codes "atmod"
mnemonic Modify = codes "modify"
mnemonic Extract = codes "extract"
mnemonic Modpc = codes "modpc"
mnemonic Sdma = codes "sdma"
mnemonic Sysctl = codes "sysctl"
mnemonic Calls = codes "calls"
mnemonic Udma = codes "udma"
mnemonic Mark = codes "mark"
mnemonic Fmark = codes "fmark"
mnemonic Flushreg = codes "flushreg"
mnemonic Syncf = codes "syncf"
mnemonic Testno = codes "testno"
mnemonic Testg = codes "testg"
mnemonic Teste = codes "teste"
mnemonic Testge = codes "testge"
mnemonic Testl = codes "testl"
mnemonic Testne = codes "testne"
mnemonic Testle = codes "testle"
mnemonic Testo = codes "testo"
mnemonic Bbc = codes "bbc"
mnemonic Cmpobg = codes "cmpobg"
mnemonic Cmpobe = codes "cmpobe"
mnemonic Cmpobge = codes "cmpobge"
mnemonic Cmpobl = codes "cmpobl"
mnemonic Cmpobne = codes "cmpobne"
mnemonic Cmpoble = codes "cmpoble"
mnemonic Bbs = codes "bbs"
mnemonic Cmpibno = codes "cmpibno"
mnemonic Cmpibg = codes "cmpibg"
mnemonic Cmpibe = codes "cmpibe"
mnemonic Cmpibge = codes "cmpibge"
mnemonic Cmpibl = codes "cmpibl"
mnemonic Cmpibne = codes "cmpibne"
mnemonic Cmpible = codes "cmpible"
mnemonic Cmpibo = codes "cmpibo"
mnemonic B = codes "b"
mnemonic Call = codes "call"
mnemonic Ret = codes "ret"
mnemonic Bal = codes "bal"
mnemonic Bno = codes "bno"
mnemonic Bg = codes "bg"
mnemonic Be = codes "be"
mnemonic Bge = codes "bge"
mnemonic Bl = codes "bl"
mnemonic Bne = codes "bne"
mnemonic Ble = codes "ble"
mnemonic Bo = codes "bo"
mnemonic Faultno = codes "faultno"
mnemonic Faultg = codes "faultg"
mnemonic Faulte = codes "faulte"
mnemonic Faultge = codes "faultge"
mnemonic Faultl = codes "faultl"
mnemonic Faultne = codes "faultne"
mnemonic Faultle = codes "faultle"
mnemonic Faulto = codes "faulto"
mnemonic Ldob = codes "ldob"
mnemonic Stob = codes "stob"
mnemonic Bx = codes "bx"
mnemonic Balx = codes "balx"
mnemonic Callx = codes "callx"
mnemonic Ldos = codes "ldos"
mnemonic Stos = codes "stos"
mnemonic Lda = codes "lda"
mnemonic Ld = codes "ld"
mnemonic St = codes "st"
mnemonic Ldl = codes "ldl"
mnemonic Stl = codes "stl"
mnemonic Ldt = codes "ldt"
mnemonic Stt = codes "stt"
mnemonic Ldq = codes "ldq"
mnemonic Stq = codes "stq"
mnemonic Ldib = codes "ldib"
mnemonic Stib = codes "stib"
mnemonic Ldis = codes "ldis"
mnemonic Stis = codes "stis"

-- the name of a mnemonic
unfoldable pub op_named : List ℕ → Option Op
op_named s = find (λ op. bytes_eq s (mnemonic op)) names

-- the text begins with this letter
abbrev pub begins_with : ℕ → List ℕ → Bool
begins_with letter [] = false
begins_with letter (c ∷ s) = c == letter

-- `.`
abbrev pub dot : ℕ
dot = 46

-- The prediction by what stands behind the mnemonic: `.f` sets it, `.t` and nothing clear it. Only a name with a
-- prediction has an ending.
abbrev pub hint_by : Bool → List ℕ → Option Bool
hint_by uses [] = Some false
hint_by true s = if bytes_eq s (codes ".f") then Some true else if bytes_eq s (codes ".t") then Some false else None
hint_by false s = None

-- a name, where the prediction is allowed
abbrev pub with_hint : Op → Option Bool → Option (Op × Bool)
with_hint op None = None
with_hint op (Some hint) = Some (op, hint)

-- the name and the prediction of the first word of a statement
unfoldable pub named_by : List ℕ → Option (Op × Bool)
named_by s = option_and_then (λ op. with_hint op (hint_by (row_of op).hint (from (is_byte dot) s)))
    (op_named (before (is_byte dot) s))

-- the first word of a statement
abbrev pub mnemonic_text : Op → Bool → List ℕ
mnemonic_text op hint = mnemonic op ++ (if hint then codes ".f" else [])
