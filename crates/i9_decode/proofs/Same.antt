-- Words of the register, compare-and-branch and control formats: the same at the fields that count, and the same
-- instruction.
use Rattle.std.proofs.Common.{rules, ◌≡◌, ℕ, ◌*◌, ◌<◌, Bool, true, false, ◌&&◌, refl, sym, ap, ◌∙◌, arith, cond}
use Rattle.std.proofs.lemmas.Bool.{and_parts}
use Rattle.std.proofs.lemmas.Bool.Decides.{nat_tests}
use Rattle.std.proofs.lemmas.Int.{ints}
use Rattle.i9_isa.specs.declared.op.Op.{Op}
use Rattle.i9_isa.specs.declared.op.Op.TheVariants.{Notbit}
use Rattle.i9_isa.specs.declared.inst.Inst.{Inst}
use Rattle.i9_isa.specs.declared.format.Row.{Row}
use Rattle.i9_isa.specs.declared.format.Format.{Format}
use Rattle.i9_isa.specs.Table.{row_of}
use Rattle.i9_isa.specs.Words.{field, bit, disp_in, hint_in, signed_of, Encodes}
use Rattle.i9_decode.specs.Ignored.{is_used, reg_fields, cobr_fields, ctrl_fields}
use Rattle.i9_decode.proofs.Bits.{SameIf, SameWhere, bit_field, field_bit}
use Rattle.i9_decode.proofs.Spelled.{row_fits_at}
use Rattle.i9_decode.proofs.Told.{has_m, has_s, operand_same, read_twice}

-- ---- displacement and prediction

pub hint_keeps : (b : Bool) (w v : ℕ) → SameIf b w v 1 1 → hint_in b w ≡ hint_in b v
hint_keeps true w v h = field_bit w v 1 (h refl)
hint_keeps false w v h = refl

pub disp_keeps : (f : Format) (b : Bool) (w v : ℕ) → (b ≡ true → disp_in f true w ≡ disp_in f true v) → disp_in f b w ≡ disp_in f b v
disp_keeps f true w v h = h refl
disp_keeps f false w v h = refl

pub near_signed : (m n : ℕ) → m < 8192 → n < 8192 → signed_of 13 m ≡ signed_of 13 n → m ≡ n
near_signed m n a b e = grind (arith, ints, nat_tests)

pub far_signed : (m n : ℕ) → m < 16777216 → n < 16777216 → signed_of 24 m ≡ signed_of 24 n → m ≡ n
far_signed m n a b e = grind (arith, ints, nat_tests)

-- ---- what a use that counts has

abbrev implies : Bool → Bool → Bool
implies a b = cond a b true

implied : (a b : Bool) → implies a b ≡ true → a ≡ true → b ≡ true
implied true b h e = h
implied false b h e = absurd (cc)

-- what the uses of a row have, by its format
abbrev UsesFit : Format → Row → Type 0
UsesFit Format.Reg r = (implies (is_used r.a) (has_m r.a && has_s r.a) ≡ true) × (implies (is_used r.b) (has_m r.b && has_s r.b) ≡ true) × (implies (is_used r.c) (has_m r.c) ≡ true)
UsesFit Format.Cobr r = (is_used r.a ≡ true) × (has_m r.a ≡ true) × (implies (is_used r.b) (has_s r.b) ≡ true)
UsesFit _ r = (true ≡ true) × (true ≡ true) × (true ≡ true)

uses_fit : (op : Op) → UsesFit (row_of op).format (row_of op)
uses_fit Notbit = (refl, refl, refl)
uses_fit _ = (refl, refl, refl)

-- ---- the register format

pub reg_keeps : (w v w1 : ℕ) (i : Inst) → (row_of i.op).format ≡ Format.Reg → SameWhere (reg_fields (is_used (row_of i.op).a) (is_used (row_of i.op).b) (is_used (row_of i.op).c)) w v → Encodes w w1 i → Encodes v w1 i
reg_keeps w v w1 i f h form =
    let r = row_of i.op in
    let c19 = h.1 in let b14 = c19.1 in let c13 = b14.1 in let b12 = c13.1 in let a11 = b12.1 in
    let e7 = a11.1 in let b6 = e7.1 in let a5 = b6.1 in let a0 = a5.1 in
    record {
      name = record { opcode = form.name.opcode ∙ h.0 refl; extension = rw f ((rw f at form.name.extension) ∙ e7.0 refl); formed = rw f refl };
      a = rw f (sym (operand_same r.a (bit w 11) (bit v 11) (bit w 5) (bit v 5) (field w 0 5) (field v 0 5) (λ t. field_bit w v 11 (a11.0 t)) (λ t. field_bit w v 5 (a5.0 t)) a0.0) ∙ rw f at form.a);
      b = rw f (sym (operand_same r.b (bit w 12) (bit v 12) (bit w 6) (bit v 6) (field w 14 5) (field v 14 5) (λ t. field_bit w v 12 (b12.0 t)) (λ t. field_bit w v 6 (b6.0 t)) b14.0) ∙ rw f at form.b);
      c = rw f (sym (operand_same r.c (bit w 13) (bit v 13) false false (field w 19 5) (field v 19 5) (λ t. field_bit w v 13 (c13.0 t)) (λ _. refl) c19.0) ∙ rw f at form.c);
      ea = rw f (rw f at form.ea);
      disp = form.disp ∙ rw f (disp_keeps Format.Reg r.disp w v (λ _. refl));
      hint = form.hint ∙ hint_keeps r.hint w v (λ t. absurd (cc ((row_fits_at i.op Format.Reg f).3)));
    }

pub reg_tells : (w v w1 : ℕ) (i : Inst) → (row_of i.op).format ≡ Format.Reg → Encodes w w1 i → Encodes v w1 i → SameWhere (reg_fields (is_used (row_of i.op).a) (is_used (row_of i.op).b) (is_used (row_of i.op).c)) w v
reg_tells w v w1 i f x y =
    let r = row_of i.op in
    let uses : UsesFit Format.Reg r = rw f at (uses_fit i.op) in
    let a = read_twice r.a i.a (bit w 11) (bit v 11) (bit w 5) (bit v 5) (field w 0 5) (field v 0 5) (rw f at x.a) (rw f at y.a) in
    let b = read_twice r.b i.b (bit w 12) (bit v 12) (bit w 6) (bit v 6) (field w 14 5) (field v 14 5) (rw f at x.b) (rw f at y.b) in
    let c = read_twice r.c i.c (bit w 13) (bit v 13) false false (field w 19 5) (field v 19 5) (rw f at x.c) (rw f at y.c) in
    let op : field w 24 8 ≡ field v 24 8 = cc in
    let e7 : field w 7 4 ≡ field v 7 4 = sym (rw f at x.name.extension) ∙ (rw f at y.name.extension) in
    let c13 = λ (t : is_used r.c ≡ true). bit_field w v 13 (c.bit_m (implied _ _ uses.2 t)) in
    let b12 = λ (t : is_used r.b ≡ true). bit_field w v 12 (b.bit_m (and_parts _ _ (implied _ _ uses.1 t)).0) in
    let a11 = λ (t : is_used r.a ≡ true). bit_field w v 11 (a.bit_m (and_parts _ _ (implied _ _ uses.0 t)).0) in
    let b6 = λ (t : is_used r.b ≡ true). bit_field w v 6 (b.bit_s (and_parts (has_m r.b) (has_s r.b) (implied _ _ uses.1 t)).1) in
    let a5 = λ (t : is_used r.a ≡ true). bit_field w v 5 (a.bit_s (and_parts (has_m r.a) (has_s r.a) (implied _ _ uses.0 t)).1) in
    search (rules, op, c.number, b.number, c13, b12, a11, e7, b6, a5, a.number) depth 16

-- ---- the compare-and-branch format

pub cobr_keeps : (w v w1 : ℕ) (i : Inst) → (row_of i.op).format ≡ Format.Cobr → SameWhere (cobr_fields (is_used (row_of i.op).b) (row_of i.op).disp (row_of i.op).hint) w v → Encodes w w1 i → Encodes v w1 i
cobr_keeps w v w1 i f h form =
    let r = row_of i.op in
    let a19 = h.1 in let b14 = a19.1 in let a13 = b14.1 in let d2 = a13.1 in let h1 = d2.1 in let b0 = h1.1 in
    record {
      name = record { opcode = form.name.opcode ∙ h.0 refl; extension = rw f (rw f at form.name.extension); formed = rw f refl };
      a = rw f (sym (operand_same r.a (bit w 13) (bit v 13) false false (field w 19 5) (field v 19 5) (λ _. field_bit w v 13 (a13.0 refl)) (λ _. refl) (λ _. a19.0 refl)) ∙ rw f at form.a);
      b = rw f (sym (operand_same r.b false false (bit w 0) (bit v 0) (field w 14 5) (field v 14 5) (λ _. refl) (λ t. field_bit w v 0 (b0.0 t)) b14.0) ∙ rw f at form.b);
      c = rw f (rw f at form.c);
      ea = rw f (rw f at form.ea);
      disp = form.disp ∙ rw f (disp_keeps Format.Cobr r.disp w v (λ t. ap (λ n. signed_of 13 (n * 4)) (d2.0 t)));
      hint = form.hint ∙ hint_keeps r.hint w v h1.0;
    }

pub cobr_tells : (w v w1 : ℕ) (i : Inst) → (row_of i.op).format ≡ Format.Cobr → Encodes w w1 i → Encodes v w1 i → SameWhere (cobr_fields (is_used (row_of i.op).b) (row_of i.op).disp (row_of i.op).hint) w v
cobr_tells w v w1 i f x y =
    let r = row_of i.op in
    let uses : UsesFit Format.Cobr r = rw f at (uses_fit i.op) in
    let a = read_twice r.a i.a (bit w 13) (bit v 13) false false (field w 19 5) (field v 19 5) (rw f at x.a) (rw f at y.a) in
    let b = read_twice r.b i.b false false (bit w 0) (bit v 0) (field w 14 5) (field v 14 5) (rw f at x.b) (rw f at y.b) in
    let op : field w 24 8 ≡ field v 24 8 = cc in
    let a19 = a.number uses.0 in
    let a13 = bit_field w v 13 (a.bit_m uses.1) in
    let d2 : r.disp ≡ true → field w 2 11 ≡ field v 2 11 = λ t.
    let e = near_signed (field w 2 11 * 4) (field v 2 11 * 4) (omega arith) (omega arith) (sym (rw (f, t) at x.disp) ∙ rw (f, t) at y.disp) in omega arith in
    let h1 = λ (t : r.hint ≡ true). bit_field w v 1 (rw t at (sym x.hint ∙ y.hint)) in
    let b0 = λ (t : is_used r.b ≡ true). bit_field w v 0 (b.bit_s (implied (is_used r.b) (has_s r.b) uses.2 t)) in
    search (rules, op, a19, b.number, a13, d2, h1, b0)

-- ---- the control format

pub ctrl_keeps : (w v w1 : ℕ) (i : Inst) → (row_of i.op).format ≡ Format.Ctrl → SameWhere (ctrl_fields (row_of i.op).disp (row_of i.op).hint) w v → Encodes w w1 i → Encodes v w1 i
ctrl_keeps w v w1 i f h form =
    let r = row_of i.op in
    let d2 = h.1 in let h1 = d2.1 in
    record {
      name = record { opcode = form.name.opcode ∙ h.0 refl; extension = rw f (rw f at form.name.extension); formed = rw f refl };
      a = rw f (rw f at form.a);
      b = rw f (rw f at form.b);
      c = rw f (rw f at form.c);
      ea = rw f (rw f at form.ea);
      disp = form.disp ∙ rw f (disp_keeps Format.Ctrl r.disp w v (λ t. ap (λ n. signed_of 24 (n * 4)) (d2.0 t)));
      hint = form.hint ∙ hint_keeps r.hint w v h1.0;
    }

pub ctrl_tells : (w v w1 : ℕ) (i : Inst) → (row_of i.op).format ≡ Format.Ctrl → Encodes w w1 i → Encodes v w1 i → SameWhere (ctrl_fields (row_of i.op).disp (row_of i.op).hint) w v
ctrl_tells w v w1 i f x y =
    let r = row_of i.op in
    let op : field w 24 8 ≡ field v 24 8 = cc in
    let d2 : r.disp ≡ true → field w 2 22 ≡ field v 2 22 = λ t.
    let e = far_signed (field w 2 22 * 4) (field v 2 22 * 4) (omega arith) (omega arith) (sym (rw (f, t) at x.disp) ∙ rw (f, t) at y.disp) in omega arith in
    let h1 = λ (t : r.hint ≡ true). bit_field w v 1 (rw t at (sym x.hint ∙ y.hint)) in
    search (rules, op, d2, h1)
