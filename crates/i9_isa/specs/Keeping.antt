-- Which names keep marks: a mark of a source goes with the result to the destination, and decides nothing.
use Rattle.std.specs.Prelude.{Bool, true, false}
use Rattle.i9_isa.specs.declared.op.Op.{Op}
use Rattle.i9_isa.specs.declared.op.Op.TheVariants.{And, Andnot, Notand, Xor, Or, Nor, Xnor, Not, Ornot, Notor, Nand}
use Rattle.i9_isa.specs.declared.op.Op.TheVariants.{Setbit, Clrbit, Notbit, Alterbit, Addo, Subo, Mulo, Emul, Shro}
use Rattle.i9_isa.specs.declared.op.Op.TheVariants.{Shlo, Shri, Shrdi, Rotate, Modify, Extract, Mov, Movl, Movt, Movq}
use Rattle.i9_isa.specs.declared.op.Op.TheVariants.{Lda}

-- this project's own: results that neither fault nor change the condition code, moves of words, and lda
abbrev pub keeps_marks : Op → Bool
keeps_marks And = true
keeps_marks Andnot = true
keeps_marks Notand = true
keeps_marks Xor = true
keeps_marks Or = true
keeps_marks Nor = true
keeps_marks Xnor = true
keeps_marks Not = true
keeps_marks Ornot = true
keeps_marks Notor = true
keeps_marks Nand = true
keeps_marks Setbit = true
keeps_marks Clrbit = true
keeps_marks Notbit = true
keeps_marks Alterbit = true
keeps_marks Addo = true
keeps_marks Subo = true
keeps_marks Mulo = true
keeps_marks Emul = true
keeps_marks Shro = true
keeps_marks Shlo = true
keeps_marks Shri = true
keeps_marks Shrdi = true
keeps_marks Rotate = true
keeps_marks Modify = true
keeps_marks Extract = true
keeps_marks Mov = true
keeps_marks Movl = true
keeps_marks Movt = true
keeps_marks Movq = true
keeps_marks Lda = true
keeps_marks _ = false
