-- Words whose fields are as an instruction is spelled have none of its ignored bits.
use Rattle.std.proofs.Common.{◌≡◌, ℕ, ◌*◌, ◌<◌, Bool, true, false, refl, sym, ◌∙◌, arith, cond, nat_lt, ℤ, rules}
use Rattle.std.proofs.lemmas.Bool.{ltb-true}
use Rattle.i9_isa.specs.declared.inst.Inst.{Inst}
use Rattle.i9_isa.specs.declared.inst.Mode.{Mode}
use Rattle.i9_isa.specs.declared.inst.Mode.TheVariants.{Offset, BaseOffset}
use Rattle.i9_isa.specs.declared.format.Format.{Format}
use Rattle.i9_isa.specs.Operands.{field_number, is_address, has_base, has_index, has_offset}
use Rattle.i9_isa.specs.Table.{row_of}
use Rattle.i9_isa.specs.Valid.{IsValid, FitsDisp}
use Rattle.i9_isa.specs.Words.{field, bit, signed_of}
use Rattle.i9_decode.specs.Ignored.{fields_of, low_fields, ignored_bits, HasNone}
use Rattle.i9_decode.specs.Spelling.{m_of, s_of}
use Rattle.i9_decode.proofs.Bits.{ZeroElse, bit_zero, exact, exact_none}
use Rattle.i9_decode.proofs.Forms.{address_parts}
use Rattle.i9_decode.proofs.Same.{near_signed, far_signed}
use Rattle.i9_decode.proofs.Spelled.{number_zero, m_zero, s_zero}

clear : (f : Format) (w : ℕ) (i : Inst) → (row_of i.op).format ≡ f → ZeroElse (fields_of f (row_of i.op) i.ea.mode) w → HasNone (ignored_bits i) w
clear f w i e zeros = rw e (exact_none w (fields_of f (row_of i.op) i.ea.mode) (exact f (row_of i.op) i.ea.mode) zeros)

pub register_clear : (w : ℕ) (i : Inst) → IsValid i → (row_of i.op).format ≡ Format.Reg →
    field w 0 5 ≡ field_number i.a → bit w 11 ≡ m_of (row_of i.op).a i.a → bit w 5 ≡ s_of (row_of i.op).a i.a →
    field w 14 5 ≡ field_number i.b → bit w 12 ≡ m_of (row_of i.op).b i.b → bit w 6 ≡ s_of (row_of i.op).b i.b →
    field w 19 5 ≡ field_number i.c → bit w 13 ≡ m_of (row_of i.op).c i.c → HasNone (ignored_bits i) w
register_clear w i v f ea am as' eb bm bs ec cm =
    let r = row_of i.op in
    let c19 = number_zero r.c i.c (field w 19 5) v.c ec in
    let b14 = number_zero r.b i.b (field w 14 5) v.b eb in
    let a0 = number_zero r.a i.a (field w 0 5) v.a ea in
    let b12 = m_zero r.b i.b w 12 bm in
    let a11 = m_zero r.a i.a w 11 am in
    clear Format.Reg w i f (search (rules, c19, b14, m_zero r.c i.c w 13 cm, b12, a11, s_zero r.b i.b w 6 bs, s_zero r.a i.a w 5 as', a0) depth 16)

no_hint_set : (uses hint : Bool) (w : ℕ) → (hint ≡ true → uses ≡ true) → bit w 1 ≡ hint → uses ≡ false → field w 1 1 ≡ 0
no_hint_set uses false w h is e = bit_zero w 1 is
no_hint_set uses true w h is e = absurd (cc (h refl))

near_zero : (uses : Bool) (z : ℤ) (w : ℕ) → FitsDisp Format.Cobr uses z → z ≡ signed_of 13 (field w 2 11 * 4) → uses ≡ false → field w 2 11 ≡ 0
near_zero true z w h e t = absurd (cc)
near_zero false z w h e t = let is = near_signed (field w 2 11 * 4) 0 (omega arith) (omega arith) (sym e ∙ h) in omega arith

far_zero : (uses : Bool) (z : ℤ) (w : ℕ) → FitsDisp Format.Ctrl uses z → z ≡ signed_of 24 (field w 2 22 * 4) → uses ≡ false → field w 2 22 ≡ 0
far_zero true z w h e t = absurd (cc)
far_zero false z w h e t = let is = far_signed (field w 2 22 * 4) 0 (omega arith) (omega arith) (sym e ∙ h) in omega arith

pub branch_clear : (w : ℕ) (i : Inst) → IsValid i → (row_of i.op).format ≡ Format.Cobr →
    field w 14 5 ≡ field_number i.b → bit w 0 ≡ s_of (row_of i.op).b i.b → i.disp ≡ signed_of 13 (field w 2 11 * 4) → bit w 1 ≡ i.hint → HasNone (ignored_bits i) w
branch_clear w i v f eb bs ed eh =
    let d = near_zero (row_of i.op).disp i.disp w (rw f at v.disp) ed in
    clear Format.Cobr w i f (search (rules, d, v.b, v.hint, number_zero, s_zero, no_hint_set))

pub control_clear : (w : ℕ) (i : Inst) → IsValid i → (row_of i.op).format ≡ Format.Ctrl →
    i.disp ≡ signed_of 24 (field w 2 22 * 4) → bit w 1 ≡ i.hint → field w 0 1 ≡ 0 → HasNone (ignored_bits i) w
control_clear w i v f ed eh er =
    let d = far_zero (row_of i.op).disp i.disp w (rw f at v.disp) ed in
    clear Format.Ctrl w i f (search (rules, d, er, v.hint, no_hint_set))

part_zero : (has : Bool) (limit n f : ℕ) → nat_lt n (cond has limit 1) ≡ true → f ≡ n → has ≡ false → f ≡ 0
part_zero true limit n f h e t = absurd (cc)
part_zero false limit n f h e t = let l : n < 1 = ltb-true n 1 h in omega arith

low_zero : (m : Mode) (w index scale : ℕ) → nat_lt index (cond (has_index m) 32 1) ≡ true → nat_lt scale (cond (has_index m) 5 1) ≡ true →
    (has_offset m ≡ false → field w 0 5 ≡ index) → (has_offset m ≡ false → field w 7 3 ≡ scale) → (has_offset m ≡ false → field w 5 2 ≡ 0) → ZeroElse (low_fields m) w
low_zero Offset w index scale hi hs ei es eg = (λ t. absurd (cc), tt)
low_zero BaseOffset w index scale hi hs ei es eg = (λ t. absurd (cc), tt)
low_zero m w index scale hi hs ei es eg = search (rules, part_zero, hi, hs, ei, es, eg)

pub memory_clear : (w : ℕ) (i : Inst) → IsValid i → (row_of i.op).format ≡ Format.Mem → is_address i.ea ≡ true →
    field w 19 5 ≡ field_number i.c → field w 14 5 ≡ i.ea.base →
    (has_offset i.ea.mode ≡ false → field w 0 5 ≡ i.ea.index) → (has_offset i.ea.mode ≡ false → field w 7 3 ≡ i.ea.scale) → (has_offset i.ea.mode ≡ false → field w 5 2 ≡ 0) → HasNone (ignored_bits i) w
memory_clear w i v f ia ec eb ei es eg =
    let m = i.ea.mode in
    let p = address_parts i.ea ia in
    let base = part_zero (has_base m) 32 i.ea.base (field w 14 5) p.base eb in
    let low = low_zero m w i.ea.index i.ea.scale p.index p.scale ei es eg in
    clear Format.Mem w i f (search (rules, base, low, v.c, number_zero))
