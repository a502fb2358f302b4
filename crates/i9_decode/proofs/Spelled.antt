-- Operands as they are spelled in fields, and what the rows of each format have in common.
use Rattle.std.proofs.Common.{◌≡◌, ℕ, ◌<◌, Bool, true, false, ◌&&◌, ◌||◌, refl, sym, ap, ◌∙◌, arith, Some, ltb}
use Rattle.std.proofs.lemmas.Bool.{eqb-true}
use Rattle.std.proofs.lemmas.Bool.Decides.{nat_tests}
use Rattle.i9_isa.specs.declared.op.Op.{Op}
use Rattle.i9_isa.specs.declared.op.Op.TheVariants.{Notbit}
use Rattle.i9_isa.specs.declared.inst.Operand.{Operand}
use Rattle.i9_isa.specs.declared.inst.Operand.TheVariants.{Reg, Lit, Sfr}
use Rattle.i9_isa.specs.declared.format.Row.{Row}
use Rattle.i9_isa.specs.declared.format.Format.{Format}
use Rattle.i9_isa.specs.declared.format.Use.{Use}
use Rattle.i9_isa.specs.declared.format.Use.TheVariants.{Unused, Source, Left, Right, Destination}
use Rattle.i9_isa.specs.Operands.{takes, is_unused, field_number}
use Rattle.i9_isa.specs.Table.{row_of}
use Rattle.i9_isa.specs.Words.{field, bit, operand_in}
use Rattle.i9_decode.specs.Ignored.{is_used}
use Rattle.i9_decode.proofs.Bits.{bit_zero}
use Rattle.i9_decode.specs.Spelling.{m_of, s_of}

-- what is spelled is read
spelled : (o : Operand) (u : Use) → takes u o ≡ true → operand_in u (m_of u o) (s_of u o) (field_number o) ≡ Some o
spelled (Reg r) Unused h = grind (arith, nat_tests)
spelled (Lit l) Unused h = grind (arith, nat_tests)
spelled (Sfr s) Unused h = grind (arith, nat_tests)
spelled _ _ h = grind (arith, nat_tests)

-- an operand is read from fields that are as it is spelled
pub operand_from : (u : Use) (o : Operand) (m s : Bool) (f : ℕ) → takes u o ≡ true → m ≡ m_of u o → s ≡ s_of u o → f ≡ field_number o → operand_in u m s f ≡ Some o
operand_from u o m s f h em es ef = rw (em, es, ef) (spelled o u h)

-- the number of an operand has five bits
small : (o : Operand) (u : Use) → takes u o ≡ true → field_number o < 32
small (Reg r) Unused h = grind (arith, nat_tests)
small (Lit l) Unused h = grind (arith, nat_tests)
small (Sfr s) Unused h = grind (arith, nat_tests)
small _ _ h = grind (arith, nat_tests)

pub number_small : (u : Use) (o : Operand) → takes u o ≡ true → field_number o < 32
number_small u o h = small o u h

-- uses whose operands have no bit S, and no bit M
abbrev pub lacks_s : Use → Bool
lacks_s (Source n) = false
lacks_s Right = false
lacks_s _ = true

abbrev pub lacks_m : Use → Bool
lacks_m (Source n) = false
lacks_m Left = false
lacks_m (Destination n) = false
lacks_m _ = true

pub no_s : (u : Use) (o : Operand) → lacks_s u ≡ true → s_of u o ≡ false
no_s (Source n) o h = cc
no_s Right o h = cc
no_s _ o h = refl

pub no_m : (u : Use) (o : Operand) → lacks_m u ≡ true → m_of u o ≡ false
no_m (Source n) o h = cc
no_m Left o h = cc
no_m (Destination n) o h = cc
no_m _ o h = refl

-- what isn't used is register 0, with bits M and S clear
pub unused_is : (u : Use) (o : Operand) → is_unused u ≡ true → takes u o ≡ true → Some (Reg 0) ≡ Some o
unused_is Unused (Reg r) e h = ap (λ n. Some (Reg n)) (sym (eqb-true r 0 h))
unused_is _ o e h = cc

pub number_zero : (u : Use) (o : Operand) (f : ℕ) → takes u o ≡ true → f ≡ field_number o → is_used u ≡ false → f ≡ 0
number_zero Unused (Reg r) f h is e = is ∙ eqb-true r 0 h
number_zero _ o f h is e = absurd (cc)

pub m_zero : (u : Use) (o : Operand) (w k : ℕ) → bit w k ≡ m_of u o → is_used u ≡ false → field w k 1 ≡ 0
m_zero Unused o w k is e = bit_zero w k is
m_zero _ o w k is e = absurd (cc)

pub s_zero : (u : Use) (o : Operand) (w k : ℕ) → bit w k ≡ s_of u o → is_used u ≡ false → field w k 1 ≡ 0
s_zero Unused o w k is e = bit_zero w k is
s_zero _ o w k is e = absurd (cc)

-- what each row of a format keeps
abbrev pub RowFits : Format → Row → Type 0
RowFits Format.Reg r = (lacks_s r.c ≡ true) × (ltb r.extension 16 ≡ true) × (r.disp ≡ false) × (r.hint ≡ false)
RowFits Format.Cobr r = (lacks_s r.a ≡ true) × (lacks_m r.b ≡ true) × (is_unused r.c ≡ true) × (r.extension ≡ 0)
RowFits Format.Ctrl r = (is_unused r.a ≡ true) × (is_unused r.b ≡ true) × (is_unused r.c ≡ true) × (r.extension ≡ 0)
RowFits Format.Mem r = (is_unused r.a && is_unused r.b ≡ true) × (lacks_s r.c && lacks_m r.c ≡ true) × (r.disp || r.hint ≡ false) × (r.extension ≡ 0)

row_fits : (op : Op) → RowFits (row_of op).format (row_of op)
row_fits Notbit = (refl, refl, refl, refl)
row_fits _ = (refl, refl, refl, refl)

-- the same, where the format is known
pub row_fits_at : (op : Op) (f : Format) → (row_of op).format ≡ f → RowFits f (row_of op)
row_fits_at op f e = rw e at (row_fits op)

pub neither : (a b : Bool) → a || b ≡ false → (a ≡ false) × (b ≡ false)
neither true b h = absurd (cc)
neither false b h = (refl, h)
