-- What branches do: the condition code afterwards, and whether control goes to the target.
use Rattle.std.specs.Prelude.{ℕ, Bool, true, false, not}
use Rattle.i9_isa.specs.declared.op.Op.{Op}
use Rattle.i9_isa.specs.declared.op.Op.TheVariants.{B, Bal, Bno, Bg, Be, Bge, Bl, Bne, Ble, Bo, Faultno, Faultg, Faulte}
use Rattle.i9_isa.specs.declared.op.Op.TheVariants.{Faultge, Faultl, Faultne, Faultle, Faulto, Bbc, Bbs, Cmpobg, Cmpobe}
use Rattle.i9_isa.specs.declared.op.Op.TheVariants.{Cmpobge, Cmpobl, Cmpobne, Cmpoble, Cmpibno, Cmpibg, Cmpibe, Cmpibge}
use Rattle.i9_isa.specs.declared.op.Op.TheVariants.{Cmpibl, Cmpibne, Cmpible, Cmpibo}
use Rattle.i9_isa.specs.declared.inst.Inst.{Inst}
use Rattle.i9_model.specs.Conditions.{code_of, with_code, code_where, holds, compared, signed_compared, bit_in}

-- What a branch asks: nothing, and it goes always or never; its mask of the condition code; a bit of src2; or its
-- mask of the code of src1 against src2, as numbers from 0 or as signed ones.
pub data Question : Type 0 where
  Always : Question
  Never : Question
  OfCode : (mask : ℕ) → Question
  OfBit : (wanted : Bool) → Question
  OfNumbers : (mask : ℕ) → Question
  OfSigned : (mask : ℕ) → Question

-- the question of each name; a fault instruction asks as a branch does
abbrev pub question_of : Op → Question
question_of B = Always
question_of Bal = Always
question_of Bno = OfCode 0
question_of Bg = OfCode 1
question_of Be = OfCode 2
question_of Bge = OfCode 3
question_of Bl = OfCode 4
question_of Bne = OfCode 5
question_of Ble = OfCode 6
question_of Bo = OfCode 7
question_of Faultno = OfCode 0
question_of Faultg = OfCode 1
question_of Faulte = OfCode 2
question_of Faultge = OfCode 3
question_of Faultl = OfCode 4
question_of Faultne = OfCode 5
question_of Faultle = OfCode 6
question_of Faulto = OfCode 7
question_of Bbc = OfBit false
question_of Bbs = OfBit true
question_of Cmpobg = OfNumbers 1
question_of Cmpobe = OfNumbers 2
question_of Cmpobge = OfNumbers 3
question_of Cmpobl = OfNumbers 4
question_of Cmpobne = OfNumbers 5
question_of Cmpoble = OfNumbers 6
question_of Cmpibno = OfSigned 0
question_of Cmpibg = OfSigned 1
question_of Cmpibe = OfSigned 2
question_of Cmpibge = OfSigned 3
question_of Cmpibl = OfSigned 4
question_of Cmpibne = OfSigned 5
question_of Cmpible = OfSigned 6
question_of Cmpibo = OfSigned 7
question_of _ = Never

-- something is asked
abbrev pub asks : Question → Bool
asks Never = false
asks _ = true

-- the condition code after a question of a and b
abbrev pub code_after : Question → ℕ → ℕ → ℕ → ℕ
code_after (OfBit wanted) a b code = code_where (bit_in b a)
code_after (OfNumbers mask) a b code = compared a b
code_after (OfSigned mask) a b code = signed_compared a b
code_after _ a b code = code

-- whether the answer to a question of a and b is yes
abbrev pub says_yes : Question → ℕ → ℕ → ℕ → Bool
says_yes Always a b code = true
says_yes Never a b code = false
says_yes (OfCode mask) a b code = holds mask code
says_yes (OfBit true) a b code = bit_in b a
says_yes (OfBit false) a b code = not (bit_in b a)
says_yes (OfNumbers mask) a b code = holds mask (compared a b)
says_yes (OfSigned mask) a b code = holds mask (signed_compared a b)

-- the arithmetic controls after a branch with these values of src1 and src2
abbrev pub branch_controls : Inst → ℕ → ℕ → ℕ → ℕ
branch_controls i a b ac = with_code ac (code_after (question_of i.op) a b (code_of ac))

-- a branch goes to its target, and a fault instruction raises its fault
abbrev pub is_taken : Inst → ℕ → ℕ → ℕ → Bool
is_taken i a b ac = says_yes (question_of i.op) a b (code_of ac)
