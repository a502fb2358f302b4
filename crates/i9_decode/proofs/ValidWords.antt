-- What is decoded is valid.
use Rattle.std.proofs.Common.{◌≡◌, ℕ, ◌*◌, ◌%◌, ◌^◌, ◌<◌, Bool, true, false, ◌&&◌, cond, nat_lt, Option, Some, None, option_and_then, refl, sym, ap, ◌∙◌, arith, ℤ}
use Rattle.std.proofs.lemmas.Bool.{and_parts}
use Rattle.std.proofs.lemmas.Bool.Decides.{nat_tests}
use Rattle.std.proofs.lemmas.Int.{ints}
use Rattle.std.proofs.lemmas.Nat.{pow_pos, mod_below}
use Rattle.i9_isa.specs.declared.inst.Operand.{Operand}
use Rattle.i9_isa.specs.declared.inst.Operand.TheVariants.{Reg}
use Rattle.i9_isa.specs.declared.inst.Mode.{Mode}
use Rattle.i9_isa.specs.declared.inst.Mode.TheVariants.{Offset, BaseOffset, Base, BaseIndex}
use Rattle.i9_isa.specs.declared.inst.Ea.{Ea}
use Rattle.i9_isa.specs.declared.inst.Inst.{Inst}
use Rattle.i9_isa.specs.declared.format.Row.{Row}
use Rattle.i9_isa.specs.declared.format.Format.{Format}
use Rattle.i9_isa.specs.declared.format.Use.{Use}
use Rattle.i9_isa.specs.declared.format.Use.TheVariants.{Unused}
use Rattle.i9_isa.specs.Operands.{takes, is_unused, has_base, has_index, has_disp, has_offset, disp_limit, is_address}
use Rattle.i9_isa.specs.Table.{row_of}
use Rattle.i9_isa.specs.Valid.{IsValid, FitsAddress, FitsDisp, is_within}
use Rattle.i9_isa.specs.Words.{field, operand_by, operand_in, src1_in, src2_in, src_dst_in, signed_of, disp_in, hint_in, mode_in, address_in, if_scaled, ea_in, Encodes}
use Rattle.i9_decode.proofs.Spelled.{RowFits, row_fits_at}

-- ---- operands

if_so : (b : Bool) (x o : Operand) (P : Operand → Bool) → P x ≡ b → cond b (Some x) None ≡ Some o → P o ≡ true
if_so true x o P p h = let same : x ≡ o = cc in ap P (sym same) ∙ p
if_so false x o P p h = absurd (cc)

chosen : (u : Use) (x : Option Operand) (o : Operand) → option_and_then (λ x. cond (takes u x) (Some x) None) x ≡ Some o → takes u o ≡ true
chosen u None o h = absurd (cc)
chosen u (Some x) o h = if_so (takes u x) x o (takes u) refl h

-- an operand that is read is one that its use allows
operand_taken : (u : Use) (m s : Bool) (f : ℕ) (o : Operand) → operand_in u m s f ≡ Some o → takes u o ≡ true
operand_taken Unused m s f o h = let same : Reg 0 ≡ o = cc in ap (takes Unused) (sym same)
operand_taken u m s f o h = chosen u (operand_by u m s f) o h

unused_taken : (u : Use) (o : Operand) → is_unused u ≡ true → ◌≡◌ {A = Option Operand} (Some (Reg 0)) (Some o) → takes u o ≡ true
unused_taken Unused o e h = let same : Reg 0 ≡ o = cc in ap (takes Unused) (sym same)
unused_taken _ o e h = absurd (cc)

src1_taken : (f : Format) (r : Row) (w : ℕ) (o : Operand) → RowFits f r → src1_in f r.a w ≡ Some o → takes r.a o ≡ true
src1_taken Format.Reg r w o fits h = operand_taken r.a _ _ _ o h
src1_taken Format.Cobr r w o fits h = operand_taken r.a _ _ _ o h
src1_taken Format.Ctrl r w o fits h = unused_taken r.a o fits.0 h
src1_taken Format.Mem r w o fits h = unused_taken r.a o (and_parts (is_unused r.a) (is_unused r.b) fits.0).0 h

src2_taken : (f : Format) (r : Row) (w : ℕ) (o : Operand) → RowFits f r → src2_in f r.b w ≡ Some o → takes r.b o ≡ true
src2_taken Format.Reg r w o fits h = operand_taken r.b _ _ _ o h
src2_taken Format.Cobr r w o fits h = operand_taken r.b _ _ _ o h
src2_taken Format.Ctrl r w o fits h = unused_taken r.b o fits.1 h
src2_taken Format.Mem r w o fits h = unused_taken r.b o (and_parts (is_unused r.a) (is_unused r.b) fits.0).1 h

src_dst_taken : (f : Format) (r : Row) (w : ℕ) (o : Operand) → RowFits f r → src_dst_in f r.c w ≡ Some o → takes r.c o ≡ true
src_dst_taken Format.Reg r w o fits h = operand_taken r.c _ _ _ o h
src_dst_taken Format.Cobr r w o fits h = unused_taken r.c o fits.2 h
src_dst_taken Format.Ctrl r w o fits h = unused_taken r.c o fits.2 h
src_dst_taken Format.Mem r w o fits h = operand_taken r.c _ _ _ o h

-- ---- addresses

five_small : (w low : ℕ) → nat_lt (field w low 5) 32 ≡ true
five_small w low = let l : field w low 5 < 32 = mod_below _ _ (pow_pos 5) in grind (arith, nat_tests)

part_small : (has : Bool) (w low : ℕ) → nat_lt (cond has (field w low 5) 0) (cond has 32 1) ≡ true
part_small true w low = five_small w low
part_small false w low = refl

scale_small : (has : Bool) (n : ℕ) → nat_lt (cond has n 0) 5 ≡ true → nat_lt (cond has n 0) (cond has 5 1) ≡ true
scale_small true n h = h
scale_small false n h = refl

offset_small : (w : ℕ) → nat_lt (field w 0 12) 4096 ≡ true
offset_small w = let l : field w 0 12 < 4096 = mod_below _ _ (pow_pos 12) in grind (arith, nat_tests)

disp_small : (m : Mode) (w w1 : ℕ) → nat_lt w1 (2 ^ 32) ≡ true → nat_lt (cond (has_disp m) w1 (cond (has_offset m) (field w 0 12) 0)) (disp_limit m) ≡ true
disp_small Offset w w1 l = offset_small w
disp_small BaseOffset w w1 l = offset_small w
disp_small Base w w1 l = refl
disp_small BaseIndex w w1 l = refl
disp_small _ w w1 l = l

and_all : (a b c d : Bool) → a ≡ true → b ≡ true → c ≡ true → d ≡ true → a && (b && (c && d)) ≡ true
and_all a b c d ea eb ec ed = rw (ea, eb, ec, ed) refl

address_whole : (m : Mode) (w w1 : ℕ) → nat_lt w1 (2 ^ 32) ≡ true → nat_lt (address_in m w w1).scale 5 ≡ true → is_address (address_in m w w1) ≡ true
address_whole m w w1 l s = and_all _ _ _ _ (part_small (has_base m) w 14) (part_small (has_index m) w 0) (scale_small (has_index m) (field w 7 3) s) (disp_small m w w1 l)

if_address : (b : Bool) (x e : Ea) → (b ≡ true → is_address x ≡ true) → cond b (Some x) None ≡ Some e → is_address e ≡ true
if_address true x e p h = let same : x ≡ e = cc in ap is_address (sym same) ∙ p refl
if_address false x e p h = absurd (cc)

address_found : (m : Option Mode) (w w1 : ℕ) (e : Ea) → nat_lt w1 (2 ^ 32) ≡ true → option_and_then (λ m. if_scaled (address_in m w w1)) m ≡ Some e → is_address e ≡ true
address_found None w w1 e l h = absurd (cc)
address_found (Some m) w w1 e l h = if_address (nat_lt (address_in m w w1).scale 5) (address_in m w w1) e (address_whole m w w1 l) h

address_fits : (f : Format) (w w1 : ℕ) (e : Ea) → nat_lt w1 (2 ^ 32) ≡ true → ea_in f w w1 ≡ Some e → FitsAddress f e
address_fits Format.Mem w w1 e l h = address_found (mode_in w) w w1 e l h
address_fits Format.Reg w w1 e l h = cc
address_fits Format.Cobr w w1 e l h = cc
address_fits Format.Ctrl w w1 e l h = cc

-- ---- displacements

near_within : (n : ℕ) → n < 8192 → n % 4 ≡ 0 → is_within (2 ^ 12) (signed_of 13 n) ≡ true
near_within n l fours = grind (arith, ints, nat_tests)

far_within : (n : ℕ) → n < 16777216 → n % 4 ≡ 0 → is_within (2 ^ 23) (signed_of 24 n) ≡ true
far_within n l fours = grind (arith, ints, nat_tests)

disp_fits : (f : Format) (uses : Bool) (w : ℕ) (z : ℤ) → z ≡ disp_in f uses w → FitsDisp f uses z
disp_fits Format.Cobr true w z h = ap (is_within (2 ^ 12)) h ∙ near_within (field w 2 11 * 4) (omega arith) (omega arith)
disp_fits Format.Ctrl true w z h = ap (is_within (2 ^ 23)) h ∙ far_within (field w 2 22 * 4) (omega arith) (omega arith)
disp_fits Format.Reg true w z h = h
disp_fits Format.Mem true w z h = h
disp_fits Format.Reg false w z h = h
disp_fits Format.Cobr false w z h = h
disp_fits Format.Ctrl false w z h = h
disp_fits Format.Mem false w z h = h

hint_fits : (uses hint : Bool) (w : ℕ) → hint ≡ hint_in uses w → hint ≡ true → uses ≡ true
hint_fits true hint w h e = refl
hint_fits false hint w h e = sym h ∙ e

-- words of an instruction show that it is valid
pub encodes_valid : (w w1 : ℕ) (i : Inst) → w1 < 2 ^ 32 → Encodes w w1 i → IsValid i
encodes_valid w w1 i l e =
    let r = row_of i.op in
    let fits = row_fits_at i.op r.format refl in
    let small : nat_lt w1 (2 ^ 32) ≡ true = grind (arith, nat_tests) in
    record {
      a = src1_taken r.format r w i.a fits e.a;
      b = src2_taken r.format r w i.b fits e.b;
      c = src_dst_taken r.format r w i.c fits e.c;
      ea = address_fits r.format w w1 i.ea small e.ea;
      disp = disp_fits r.format r.disp w i.disp e.disp;
      hint = hint_fits r.hint i.hint w e.hint;
    }
