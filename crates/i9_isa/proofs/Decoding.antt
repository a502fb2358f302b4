-- Decoding as a function and as a relation.
use Rattle.std.proofs.Common.{◌≡◌, ℕ, Bool, true, false, cond, nat_lt, Option, Some, None, is_some, option_and_then, find, Ok, Err, ℤ, refl, sym, ap, ◌∙◌, subst}
use Rattle.i9_isa.specs.declared.op.Op.{Op}
use Rattle.i9_isa.specs.declared.inst.Operand.{Operand}
use Rattle.i9_isa.specs.declared.inst.Mode.{Mode}
use Rattle.i9_isa.specs.declared.inst.Mode.TheVariants.{Offset, BaseOffset, Base, BaseIndex}
use Rattle.i9_isa.specs.declared.inst.Ea.{Ea}
use Rattle.i9_isa.specs.declared.inst.Inst.{Inst}
use Rattle.i9_isa.specs.declared.inst.BadWord.{BadWord}
use Rattle.i9_isa.specs.declared.format.Format.{Format}
use Rattle.i9_isa.specs.Table.{row_of, names}
use Rattle.i9_isa.specs.Words.{words_of, words_of_mode, src1_in, src2_in, src_dst_in, disp_in, hint_in, mode_in, address_in, if_scaled, ea_in, is_named, has_form, with_operands, read_as, decoded_as, decoded, HasName, Encodes}
use Rattle.i9_isa.proofs.Names.{name_found, found_named}

-- operands that are there make the instruction
whole : (w w1 : ℕ) (op : Op) (n : HasName w op) (a b c : Option Operand) (ea : Option Ea) →
    src1_in (row_of op).format (row_of op).a w ≡ a → src2_in (row_of op).format (row_of op).b w ≡ b → src_dst_in (row_of op).format (row_of op).c w ≡ c → ea_in (row_of op).format w w1 ≡ ea →
    (i : Inst) → with_operands op a b c ea (disp_in (row_of op).format (row_of op).disp w) (hint_in (row_of op).hint w) ≡ Ok i → Encodes w w1 i
whole w w1 op n (Some a) (Some b) (Some c) (Some e) ha hb hc he i h =
    let made : Inst = record { op = op; a = a; b = b; c = c; ea = e; disp = disp_in (row_of op).format (row_of op).disp w; hint = hint_in (row_of op).hint w } in
    let same : made ≡ i = cc in
    subst (Encodes w w1) same (record { name = n; a = ha; b = hb; c = hc; ea = he; disp = refl; hint = refl })
whole w w1 op n _ _ _ _ ha hb hc he i h = absurd (cc)

named : (w w1 : ℕ) (op : Op) (i : Inst) → find (is_named w) names ≡ Some op → decoded_as (Some op) w w1 ≡ Ok i → Encodes w w1 i
named w w1 op i found h = elim (has_form (row_of op).format w) as (λ b. has_form (row_of op).format w ≡ b → cond b (read_as op w w1) (Err BadWord.Opcode) ≡ Ok i → Encodes w w1 i) [
  | true ↦ λ t e. let n = found_named w op found in
      whole w w1 op (record { opcode = n.opcode; extension = n.extension; formed = t }) _ _ _ _ refl refl refl refl i e
  | false ↦ λ t e. absurd (cc)
] refl h

-- what is decoded is a form
pub decoded_encodes : (w w1 : ℕ) (i : Inst) → decoded w w1 ≡ Ok i → Encodes w w1 i
unfolding decoded
decoded_encodes w w1 i h = elim (find (is_named w) names) as (λ n. find (is_named w) names ≡ n → decoded_as n w w1 ≡ Ok i → Encodes w w1 i) [
  | None ↦ λ t e. absurd (cc)
  | Some op ↦ λ t e. named w w1 op i t e
] refl h

-- a form is decoded
pub encodes_decoded : (w w1 : ℕ) (i : Inst) → Encodes w w1 i → decoded w w1 ≡ Ok i
unfolding decoded
encodes_decoded w w1 i e =
    rw (name_found w i.op e.name.opcode e.name.extension, e.name.formed, e.a, e.b, e.c, e.ea, ← e.disp, ← e.hint) refl

-- ---- the second word

abbrev disp_free : Mode → Type 0
disp_free m = (w w1 v : ℕ) → address_in m w w1 ≡ address_in m w v

one_word : (m : Mode) → words_of_mode m ≡ 1 → disp_free m
one_word Offset h w w1 v = refl
one_word BaseOffset h w w1 v = refl
one_word Base h w w1 v = refl
one_word BaseIndex h w w1 v = refl
one_word _ h w w1 v = absurd (cc)

taken : (b : Bool) (x y : Ea) → cond b (Some x) None ≡ Some y → x ≡ y
taken true x y h = cc
taken false x y h = absurd (cc)

-- a mode of one word has its address whatever the second word is
ea_free : (f : Format) (w w1 v : ℕ) (e : Ea) → words_of_mode e.mode ≡ 1 → ea_in f w w1 ≡ Some e → ea_in f w v ≡ Some e
ea_free Format.Mem w w1 v e one h = parts (mode_in w) h
  where
    parts : (m : Option Mode) → option_and_then (λ m. if_scaled (address_in m w w1)) m ≡ Some e → option_and_then (λ m. if_scaled (address_in m w v)) m ≡ Some e
    parts None h = h
    parts (Some m) h =
        let same = taken (nat_lt (address_in m w w1).scale 5) (address_in m w w1) e h in
        let short : words_of_mode m ≡ 1 = ap (λ x. words_of_mode x.mode) same ∙ one in
        ap if_scaled (sym (one_word m short w w1 v)) ∙ h
ea_free _ w w1 v e one h = h

-- an instruction of one word is decoded whatever the second word is
pub second_free : (w w1 v : ℕ) (i : Inst) → words_of i ≡ 1 → decoded w w1 ≡ Ok i → decoded w v ≡ Ok i
second_free w w1 v i one h =
    let e = decoded_encodes w w1 i h in
    encodes_decoded w v i (record { name = e.name; a = e.a; b = e.b; c = e.c; ea = ea_free (row_of i.op).format w w1 v i.ea one e.ea; disp = e.disp; hint = e.hint })

ea_there : (f : Format) (w w1 v : ℕ) → is_some (ea_in f w w1) ≡ is_some (ea_in f w v)
ea_there Format.Mem w w1 v = parts (mode_in w)
  where
    shown : (b : Bool) (x y : Ea) → is_some (cond b (Some x) None) ≡ is_some (cond b (Some y) None)
    shown true x y = refl
    shown false x y = refl

    parts : (m : Option Mode) → is_some (option_and_then (λ m. if_scaled (address_in m w w1)) m) ≡ is_some (option_and_then (λ m. if_scaled (address_in m w v)) m)
    parts None = refl
    parts (Some m) = shown (nat_lt (address_in m w w1).scale 5) (address_in m w w1) (address_in m w v)
ea_there _ w w1 v = refl

still_missing : (op : Op) (a b c : Option Operand) (x y : Option Ea) (z : ℤ) (hint : Bool) (r : BadWord) → is_some x ≡ is_some y → with_operands op a b c x z hint ≡ Err r → with_operands op a b c y z hint ≡ Err r
still_missing op (Some a) (Some b) (Some c) (Some x) y z hint r s h = absurd (cc)
still_missing op (Some a) (Some b) (Some c) None (Some y) z hint r s h = absurd (cc)
still_missing op _ _ _ _ _ z hint r s h = h

still_refused : (n : Option Op) (w w1 v : ℕ) (r : BadWord) → decoded_as n w w1 ≡ Err r → decoded_as n w v ≡ Err r
still_refused None w w1 v r h = h
still_refused (Some op) w w1 v r h = later (has_form (row_of op).format w) h
  where
    later : (b : Bool) → cond b (read_as op w w1) (Err BadWord.Opcode) ≡ Err r → cond b (read_as op w v) (Err BadWord.Opcode) ≡ Err r
    later true h = still_missing op _ _ _ _ _ _ _ r (ea_there (row_of op).format w w1 v) h
    later false h = h

-- a word is refused whatever the second word is
pub refusal_free : (w w1 v : ℕ) (r : BadWord) → decoded w w1 ≡ Err r → decoded w v ≡ Err r
unfolding decoded
refusal_free w w1 v r h = still_refused (find (is_named w) names) w w1 v r h

-- ---- refusals

not_opcode : (op : Op) (a b c : Option Operand) (ea : Option Ea) (z : ℤ) (hint : Bool) → with_operands op a b c ea z hint ≡ Err BadWord.Opcode → ⊥
not_opcode op (Some a) (Some b) (Some c) (Some ea) z hint h = absurd (cc)
not_opcode op _ _ _ _ z hint h = absurd (cc)

-- no word that is refused as Opcode has a name
pub opcode_unnamed : (w w1 : ℕ) → decoded w w1 ≡ Err BadWord.Opcode → (op : Op) → HasName w op → ⊥
unfolding decoded
opcode_unnamed w w1 h op n = not_opcode op _ _ _ _ _ _ (rw (name_found w op n.opcode n.extension, n.formed) at h)

-- a word that is refused as Operand has a name
pub operand_named : (w w1 : ℕ) → decoded w w1 ≡ Err BadWord.Operand → (op : Op) × HasName w op
unfolding decoded
operand_named w w1 h = elim (find (is_named w) names) as (λ n. find (is_named w) names ≡ n → decoded_as n w w1 ≡ Err BadWord.Operand → (op : Op) × HasName w op) [
  | None ↦ λ t e. absurd (cc)
  | Some op ↦ λ t e. formed op t (has_form (row_of op).format w) refl e
] refl h
  where
    formed : (op : Op) → find (is_named w) names ≡ Some op → (b : Bool) → has_form (row_of op).format w ≡ b → cond b (read_as op w w1) (Err BadWord.Opcode) ≡ Err BadWord.Operand → (op : Op) × HasName w op
    formed op t true f e = let n = found_named w op t in (op, record { opcode = n.opcode; extension = n.extension; formed = f })
    formed op t false f e = absurd (cc)
