-- The ignored bits of every format: changing them keeps the instruction, and nothing else does.
use Rattle.std.proofs.Common.{◌≡◌, ℕ, refl}
use Rattle.i9_isa.specs.declared.inst.Inst.{Inst}
use Rattle.i9_isa.specs.declared.format.Format.{Format}
use Rattle.i9_isa.specs.Table.{row_of}
use Rattle.i9_isa.specs.Words.{Encodes}
use Rattle.i9_decode.specs.Ignored.{fields_of, ignored_bits, SameOutside}
use Rattle.i9_decode.proofs.Bits.{SameWhere, exact, exact_where, exact_outside}
use Rattle.i9_decode.proofs.Same.{reg_keeps, reg_tells, cobr_keeps, cobr_tells, ctrl_keeps, ctrl_tells}
use Rattle.i9_decode.proofs.SameMemory.{mem_keeps, mem_tells}

keeps : (f : Format) (w v w1 : ℕ) (i : Inst) → (row_of i.op).format ≡ f → SameWhere (fields_of f (row_of i.op) i.ea.mode) w v → Encodes w w1 i → Encodes v w1 i
keeps Format.Reg w v w1 i f same form = reg_keeps w v w1 i f same form
keeps Format.Cobr w v w1 i f same form = cobr_keeps w v w1 i f same form
keeps Format.Ctrl w v w1 i f same form = ctrl_keeps w v w1 i f same form
keeps Format.Mem w v w1 i f same form = mem_keeps w v w1 i f same form

tells : (f : Format) (w v w1 : ℕ) (i : Inst) → (row_of i.op).format ≡ f → Encodes w w1 i → Encodes v w1 i → SameWhere (fields_of f (row_of i.op) i.ea.mode) w v
tells Format.Reg w v w1 i f x y = reg_tells w v w1 i f x y
tells Format.Cobr w v w1 i f x y = cobr_tells w v w1 i f x y
tells Format.Ctrl w v w1 i f x y = ctrl_tells w v w1 i f x y
tells Format.Mem w v w1 i f x y = mem_tells w v w1 i f x y

-- a word with other ignored bits is of the same instruction
pub ignored_free : (w v w1 : ℕ) (i : Inst) → SameOutside (ignored_bits i) w v → Encodes w w1 i → Encodes v w1 i
ignored_free w v w1 i h form =
    let r = row_of i.op in
    keeps r.format w v w1 i refl (exact_where w v (fields_of r.format r i.ea.mode) (exact r.format r i.ea.mode) h) form

-- words of one instruction have the same bits but for the ignored ones
pub ignored_only : (w v w1 : ℕ) (i : Inst) → Encodes w w1 i → Encodes v w1 i → SameOutside (ignored_bits i) w v
ignored_only w v w1 i x y =
    let r = row_of i.op in
    exact_outside w v (fields_of r.format r i.ea.mode) (exact r.format r i.ea.mode) (tells r.format w v w1 i refl x y)
