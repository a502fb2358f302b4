-- Words whose fields are as an instruction is spelled are a form of it.
use Rattle.std.proofs.Common.{◌≡◌, ℕ, ◌*◌, ◌<◌, Bool, true, false, ◌&&◌, refl, sym, ap, ◌∙◌, arith, Some, cond, nat_lt, ℤ}
use Rattle.std.proofs.lemmas.Bool.{and_parts, ltb-true}
use Rattle.std.proofs.lemmas.Bool.Decides.{nat_tests}
use Rattle.i9_isa.specs.declared.inst.Inst.{Inst}
use Rattle.i9_isa.specs.declared.inst.Ea.{Ea}
use Rattle.i9_isa.specs.declared.inst.Mode.{Mode}
use Rattle.i9_isa.specs.declared.inst.Mode.TheVariants.{Offset, BaseOffset, Base, BaseIndex}
use Rattle.i9_isa.specs.declared.format.Format.{Format}
use Rattle.i9_isa.specs.Operands.{field_number, is_address, has_base, has_index, has_offset, has_disp, disp_limit}
use Rattle.i9_isa.specs.Table.{row_of}
use Rattle.i9_isa.specs.Valid.{IsValid, FitsDisp}
use Rattle.i9_isa.specs.Words.{field, bit, disp_in, signed_of, mode_in, address_in, if_scaled, Encodes}
use Rattle.i9_decode.specs.Spelling.{m_of, s_of}
use Rattle.i9_decode.proofs.Spelled.{operand_from, no_s, no_m, unused_is, row_fits_at, neither}

disp_read : (f : Format) (uses : Bool) (z : ℤ) (w : ℕ) → FitsDisp f uses z → (uses ≡ true → z ≡ disp_in f true w) → z ≡ disp_in f uses w
disp_read Format.Reg true z w h e = e refl
disp_read _ true z w h e = e refl
disp_read Format.Reg false z w h e = h
disp_read _ false z w h e = h

hint_read : (uses hint b : Bool) → (hint ≡ true → uses ≡ true) → (uses ≡ true → b ≡ hint) → hint ≡ (uses && b)
hint_read true hint b h e = sym (e refl)
hint_read false true b h e = sym (h refl)
hint_read false false b h e = refl

-- a word of the register format
pub register_form : (w w1 : ℕ) (i : Inst) → IsValid i → (row_of i.op).format ≡ Format.Reg →
    field w 24 8 ≡ (row_of i.op).opcode → field w 7 4 ≡ (row_of i.op).extension →
    field w 0 5 ≡ field_number i.a → bit w 11 ≡ m_of (row_of i.op).a i.a → bit w 5 ≡ s_of (row_of i.op).a i.a →
    field w 14 5 ≡ field_number i.b → bit w 12 ≡ m_of (row_of i.op).b i.b → bit w 6 ≡ s_of (row_of i.op).b i.b →
    field w 19 5 ≡ field_number i.c → bit w 13 ≡ m_of (row_of i.op).c i.c → Encodes w w1 i
register_form w w1 i v f eo ee ea am as' eb bm bs ec cm =
    let fits = row_fits_at i.op Format.Reg f in record {
      name = record { opcode = sym eo; extension = rw f (sym ee); formed = rw f refl };
      a = rw f (operand_from _ i.a _ _ _ v.a am as' ea);
      b = rw f (operand_from _ i.b _ _ _ v.b bm bs eb);
      c = rw f (operand_from _ i.c _ _ _ v.c cm (sym (no_s _ i.c fits.0)) ec);
      ea = rw f (ap Some (sym (rw f at v.ea)));
      disp = disp_read (row_of i.op).format _ i.disp w v.disp (λ t. absurd (cc (fits.2)));
      hint = hint_read _ i.hint _ v.hint (λ t. absurd (cc (fits.3)));
    }

-- a word of the compare-and-branch format
pub branch_form : (w w1 : ℕ) (i : Inst) → IsValid i → (row_of i.op).format ≡ Format.Cobr →
    field w 24 8 ≡ (row_of i.op).opcode →
    field w 19 5 ≡ field_number i.a → bit w 13 ≡ m_of (row_of i.op).a i.a →
    field w 14 5 ≡ field_number i.b → bit w 0 ≡ s_of (row_of i.op).b i.b →
    i.disp ≡ signed_of 13 (field w 2 11 * 4) → bit w 1 ≡ i.hint → Encodes w w1 i
branch_form w w1 i v f eo ea am eb bs ed eh =
    let fits = row_fits_at i.op Format.Cobr f in record {
      name = record { opcode = sym eo; extension = rw f (fits.3); formed = rw f refl };
      a = rw f (operand_from _ i.a _ _ _ v.a am (sym (no_s _ i.a fits.0)) ea);
      b = rw f (operand_from _ i.b _ _ _ v.b (sym (no_m _ i.b fits.1)) bs eb);
      c = rw f (unused_is _ i.c fits.2 v.c);
      ea = rw f (ap Some (sym (rw f at v.ea)));
      disp = rw f (disp_read Format.Cobr _ i.disp w (rw f at v.disp) (λ _. ed));
      hint = hint_read _ i.hint (bit w 1) v.hint (λ _. eh);
    }

-- a word of the control format
pub control_form : (w w1 : ℕ) (i : Inst) → IsValid i → (row_of i.op).format ≡ Format.Ctrl →
    field w 24 8 ≡ (row_of i.op).opcode →
    i.disp ≡ signed_of 24 (field w 2 22 * 4) → bit w 1 ≡ i.hint → Encodes w w1 i
control_form w w1 i v f eo ed eh =
    let fits = row_fits_at i.op Format.Ctrl f in record {
      name = record { opcode = sym eo; extension = rw f (fits.3); formed = rw f refl };
      a = rw f (unused_is _ i.a fits.0 v.a);
      b = rw f (unused_is _ i.b fits.1 v.b);
      c = rw f (unused_is _ i.c fits.2 v.c);
      ea = rw f (ap Some (sym (rw f at v.ea)));
      disp = rw f (disp_read Format.Ctrl _ i.disp w (rw f at v.disp) (λ _. ed));
      hint = hint_read _ i.hint (bit w 1) v.hint (λ _. eh);
    }

-- the parts of an address in range
pub record AddressParts (e : Ea) : Type 0 where
  pub base : nat_lt e.base (cond (has_base e.mode) 32 1) ≡ true
  pub index : nat_lt e.index (cond (has_index e.mode) 32 1) ≡ true
  pub scale : nat_lt e.scale (cond (has_index e.mode) 5 1) ≡ true
  pub disp : nat_lt e.disp (disp_limit e.mode) ≡ true

pub address_parts : (e : Ea) → is_address e ≡ true → AddressParts e
address_parts e h =
    let p = and_parts (nat_lt e.base (cond (has_base e.mode) 32 1)) _ h in
    let q = and_parts (nat_lt e.index (cond (has_index e.mode) 32 1)) _ p.1 in
    let r = and_parts (nat_lt e.scale (cond (has_index e.mode) 5 1)) (nat_lt e.disp (disp_limit e.mode)) q.1 in
    record { base = p.0; index = q.0; scale = r.0; disp = r.1 }

scale_small : (b : Bool) (n : ℕ) → nat_lt n (cond b 5 1) ≡ true → nat_lt n 5 ≡ true
scale_small true n h = h
scale_small false n h = grind (arith, nat_tests)

scaled : (e : Ea) → is_address e ≡ true → if_scaled e ≡ Some e
scaled e h = rw (scale_small _ _ (address_parts e h).scale) refl

part_read : (has : Bool) (limit n f : ℕ) → nat_lt n (cond has limit 1) ≡ true → (has ≡ true → f ≡ n) → cond has f 0 ≡ n
part_read true limit n f h e = e refl
part_read false limit n f h e = let l : n < 1 = ltb-true n 1 h in omega arith

offset_read : (m : Mode) (n f w1 : ℕ) → nat_lt n (disp_limit m) ≡ true → (has_disp m ≡ true → n ≡ w1) → (has_offset m ≡ true → f ≡ n) → cond (has_disp m) w1 (cond (has_offset m) f 0) ≡ n
offset_read Offset n f w1 h d o = o refl
offset_read BaseOffset n f w1 h d o = o refl
offset_read Base n f w1 h d o = let l : n < 1 = ltb-true n 1 h in omega arith
offset_read BaseIndex n f w1 h d o = let l : n < 1 = ltb-true n 1 h in omega arith
offset_read _ n f w1 h d o = sym (d refl)

-- a mode with an index has no offset
pub index_long : (m : Mode) → has_index m ≡ true → has_offset m ≡ false
index_long Offset h = cc
index_long _ h = cc

-- what an address word says
pub address_read : (e : Ea) (w w1 : ℕ) → is_address e ≡ true → field w 14 5 ≡ e.base →
    (has_offset e.mode ≡ false → field w 0 5 ≡ e.index) → (has_offset e.mode ≡ false → field w 7 3 ≡ e.scale) → (has_offset e.mode ≡ true → field w 0 12 ≡ e.disp) →
    (has_disp e.mode ≡ true → e.disp ≡ w1) → address_in e.mode w w1 ≡ e
address_read e w w1 h b i s o d =
    let p = address_parts e h in
    let eb = part_read (has_base e.mode) 32 e.base (field w 14 5) p.base (λ _. b) in
    let ei = part_read (has_index e.mode) 32 e.index (field w 0 5) p.index (λ t. i (index_long e.mode t)) in
    let es = part_read (has_index e.mode) 5 e.scale (field w 7 3) p.scale (λ t. s (index_long e.mode t)) in
    let ed = offset_read e.mode e.disp (field w 0 12) w1 p.disp d o in
    rw (eb, ei, es, ed) refl

-- words of the memory format
pub memory_form : (w w1 : ℕ) (i : Inst) → IsValid i → (row_of i.op).format ≡ Format.Mem →
    field w 24 8 ≡ (row_of i.op).opcode →
    field w 19 5 ≡ field_number i.c → mode_in w ≡ Some i.ea.mode → address_in i.ea.mode w w1 ≡ i.ea → is_address i.ea ≡ true → Encodes w w1 i
memory_form w w1 i v f eo ec em ea ia =
    let fits = row_fits_at i.op Format.Mem f in
    let ab = and_parts _ _ fits.0 in
    let sm = and_parts _ _ fits.1 in
    let dh = neither (row_of i.op).disp (row_of i.op).hint fits.2 in record {
      name = record { opcode = sym eo; extension = rw f (fits.3); formed = rw f (rw em refl) };
      a = rw f (unused_is _ i.a ab.0 v.a);
      b = rw f (unused_is _ i.b ab.1 v.b);
      c = rw f (operand_from _ i.c _ _ _ v.c (sym (no_m _ i.c sm.1)) (sym (no_s _ i.c sm.0)) ec);
      ea = rw f (rw em (ap if_scaled ea ∙ scaled i.ea ia));
      disp = disp_read (row_of i.op).format _ i.disp w v.disp (λ t. absurd (cc (dh.0)));
      hint = hint_read _ i.hint _ v.hint (λ t. absurd (cc (dh.1)));
    }
