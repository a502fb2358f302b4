-- Words of the memory format: the same at the fields that count, and the same instruction.
use Rattle.std.proofs.Common.{rules, ◌≡◌, ℕ, Bool, true, false, not, refl, sym, ap, ◌∙◌, arith, subst, Option, Some, None, option_and_then, cond, eqb}
use Rattle.std.proofs.lemmas.Bool.{eqb-true}
use Rattle.i9_isa.specs.declared.inst.Ea.{Ea}
use Rattle.i9_isa.specs.declared.inst.Inst.{Inst}
use Rattle.i9_isa.specs.declared.inst.Mode.{Mode}
use Rattle.i9_isa.specs.declared.inst.Mode.TheVariants.{Offset, BaseOffset, Base, Ip, BaseIndex, Disp, BaseDisp, IndexDisp, BaseIndexDisp}
use Rattle.i9_isa.specs.declared.format.Format.TheVariants as Format
use Rattle.i9_isa.specs.Operands.{has_base, has_index, has_disp, has_offset}
use Rattle.i9_isa.specs.Table.{row_of}
use Rattle.i9_isa.specs.Words.{field, bit, mode_in, address_in, if_scaled, ea_in, Encodes}
use Rattle.i9_decode.specs.Ignored.{is_used, low_fields, mem_fields}
use Rattle.i9_decode.proofs.Bits.{SameIf, SameWhere, bit_field}
use Rattle.i9_decode.proofs.Modes.{mode_same}
use Rattle.i9_decode.proofs.Same.{hint_keeps, disp_keeps}
use Rattle.i9_decode.proofs.Spelled.{row_fits_at, neither}
use Rattle.i9_decode.proofs.Told.{operand_same, read_twice}

-- ---- modes

-- bits 13 to 10 of a mode without an offset
abbrev mode_number : Mode → ℕ
mode_number Base = 4
mode_number Ip = 5
mode_number BaseIndex = 7
mode_number Disp = 12
mode_number BaseDisp = 13
mode_number IndexDisp = 14
mode_number BaseIndexDisp = 15
mode_number _ = 0

-- one step of the table of modes
chain : (n k : ℕ) (x m : Mode) (rest : Option Mode) → mode_number x ≡ k → has_offset x ≡ false →
    (rest ≡ Some m → (n ≡ mode_number m) × (has_offset m ≡ false)) → cond (eqb n k) (Some x) rest ≡ Some m → (n ≡ mode_number m) × (has_offset m ≡ false)
chain n k x m rest e o next h = elim (eqb n k) as (λ b. eqb n k ≡ b → cond b (Some x) rest ≡ Some m → (n ≡ mode_number m) × (has_offset m ≡ false)) [
  | true ↦ λ t s. let same : x ≡ m = cc in (eqb-true n k t ∙ sym e ∙ ap mode_number same, ap has_offset (sym same) ∙ o)
  | false ↦ λ t s. next s
] refl h

no_mode : (n : ℕ) (m : Mode) → ◌≡◌ {A = Option Mode} None (Some m) → (n ≡ mode_number m) × (has_offset m ≡ false)
no_mode n m h = absurd (cc)

-- a word whose bit 12 is set tells the number of its mode
long_tells : (w : ℕ) (m : Mode) → bit w 12 ≡ true → mode_in w ≡ Some m → (field w 10 4 ≡ mode_number m) × (has_offset m ≡ false)
long_tells w m t h =
    let n = field w 10 4 in
    chain n 4 Base m _ refl refl (chain n 5 Ip m _ refl refl (chain n 7 BaseIndex m _ refl refl (chain n 12 Disp m _ refl refl (chain n 13 BaseDisp m _ refl refl (chain n 14 IndexDisp m _ refl refl (chain n 15 BaseIndexDisp m _ refl refl (no_mode n m))))))) (rw t at h)

-- one whose bit 12 is clear tells whether there is a base
short_tells : (w : ℕ) (m : Mode) → bit w 12 ≡ false → mode_in w ≡ Some m → (has_offset m ≡ true) × (bit w 13 ≡ has_base m)
short_tells w m t h = short (bit w 13) m (rw t at h)
  where
    short : (b : Bool) (m : Mode) → ◌≡◌ {A = Option Mode} (Some (cond b BaseOffset Offset)) (Some m) → (has_offset m ≡ true) × (b ≡ has_base m)
    short true m h = let e : BaseOffset ≡ m = cc in (ap has_offset (sym e), ap has_base e)
    short false m h = let e : Offset ≡ m = cc in (ap has_offset (sym e), ap has_base e)

bit_12 : (w : ℕ) (m : Mode) → mode_in w ≡ Some m → bit w 12 ≡ not (has_offset m)
bit_12 w m h = elim (bit w 12) as (λ b. bit w 12 ≡ b → b ≡ not (has_offset m)) [
  | true ↦ λ t. ap not (sym (long_tells w m t h).1)
  | false ↦ λ t. ap not (sym (short_tells w m t h).0)
] refl

-- two words of one mode have the same mode bits
record ModeBits (m : Mode) (w v : ℕ) : Type 0 where
  bit12 : field w 12 1 ≡ field v 12 1
  bit13 : field w 13 1 ≡ field v 13 1
  tail : SameIf (not (has_offset m)) w v 10 2

mode_bits : (m : Mode) (w v : ℕ) → mode_in w ≡ Some m → mode_in v ≡ Some m → ModeBits m w v
mode_bits m w v x y = by (has_offset m) refl (bit_12 w m x) (bit_12 v m y)
  where
    by : (b : Bool) → has_offset m ≡ b → bit w 12 ≡ not (has_offset m) → bit v 12 ≡ not (has_offset m) → ModeBits m w v
    by true o tw tv = record {
      bit12 = bit_field w v 12 (tw ∙ sym tv);
      bit13 = bit_field w v 13 ((short_tells w m (tw ∙ ap not o) x).1 ∙ sym (short_tells v m (tv ∙ ap not o) y).1);
      tail = λ t. absurd (cc);
    }
    by false o tw tv =
        let four : field w 10 4 ≡ field v 10 4 = (long_tells w m (tw ∙ ap not o) x).0 ∙ sym (long_tells v m (tv ∙ ap not o) y).0 in
        record { bit12 = omega arith; bit13 = omega arith; tail = λ _. omega arith }

-- ---- addresses

pub taken : (b : Bool) (x y : Ea) → cond b (Some x) None ≡ Some y → x ≡ y
taken true x y h = cc
taken false x y h = absurd (cc)

-- the mode and the address of a memory word
record AddressOf (w w1 : ℕ) (e : Ea) : Type 0 where
  mode : mode_in w ≡ Some e.mode
  parts : address_in e.mode w w1 ≡ e

address_of : (w w1 : ℕ) (e : Ea) → ea_in Format.Mem w w1 ≡ Some e → AddressOf w w1 e
address_of w w1 e h = found (mode_in w) refl h
  where
    found : (m : Option Mode) → mode_in w ≡ m → option_and_then (λ m. if_scaled (address_in m w w1)) m ≡ Some e → AddressOf w w1 e
    found None is h = absurd (cc)
    found (Some m) is h =
        let same = taken _ (address_in m w w1) e h in
        let mode : m ≡ e.mode = ap (λ x. x.mode) same in
        let P : Mode → Type 0 = λ x. address_in x w w1 ≡ e in
        record { mode = is ∙ ap Some mode; parts = subst P mode same }

-- the low fields of a memory word
record LowSame (m : Mode) (w v : ℕ) : Type 0 where
  offset : SameIf (has_offset m) w v 0 12
  tail : SameIf (not (has_offset m)) w v 10 2
  scale : SameIf (has_index m) w v 7 3
  index : SameIf (has_index m) w v 0 5

low_parts : (m : Mode) (w v : ℕ) → SameWhere (low_fields m) w v → LowSame m w v
low_parts Offset w v h = search (rules, h.0)
low_parts BaseOffset w v h = search (rules, h.0)
low_parts _ w v h = record { offset = λ t. absurd (cc); tail = h.0; scale = h.1.0; index = h.1.1.1.0 }

low_whole : (m : Mode) (w v : ℕ) → LowSame m w v → SameWhere (low_fields m) w v
low_whole Offset w v l = (l.offset, tt)
low_whole BaseOffset w v l = (l.offset, tt)
low_whole _ w v l = (l.tail, (l.scale, (λ t. absurd (cc), (l.index, tt))))

part_same : (b : Bool) (w v low width : ℕ) → SameIf b w v low width → cond b (field v low width) 0 ≡ cond b (field w low width) 0
part_same true w v low width h = sym (h refl)
part_same false w v low width h = refl

part_tells : (b : Bool) (w v low width z : ℕ) → cond b (field w low width) 0 ≡ z → cond b (field v low width) 0 ≡ z → SameIf b w v low width
part_tells true w v low width z x y = λ _. x ∙ sym y
part_tells false w v low width z x y = λ t. absurd (cc)

offset_tells : (m : Mode) (w v w1 z : ℕ) → cond (has_disp m) w1 (cond (has_offset m) (field w 0 12) 0) ≡ z → cond (has_disp m) w1 (cond (has_offset m) (field v 0 12) 0) ≡ z → SameIf (has_offset m) w v 0 12
offset_tells Offset w v w1 z x y = λ _. x ∙ sym y
offset_tells BaseOffset w v w1 z x y = λ _. x ∙ sym y
offset_tells _ w v w1 z x y = λ t. absurd (cc)

address_same : (m : Mode) (w v w1 : ℕ) → SameIf (has_base m) w v 14 5 → LowSame m w v → address_in m v w1 ≡ address_in m w w1
address_same m w v w1 base low =
    let eb = part_same (has_base m) w v 14 5 base in
    let ei = part_same (has_index m) w v 0 5 low.index in
    let es = part_same (has_index m) w v 7 3 low.scale in
    let eo = part_same (has_offset m) w v 0 12 low.offset in
    rw (eb, ei, es, eo) refl

ea_keeps : (e : Ea) (w v w1 : ℕ) → field w 12 1 ≡ field v 12 1 → field w 13 1 ≡ field v 13 1 → SameIf (has_base e.mode) w v 14 5 → LowSame e.mode w v → ea_in Format.Mem w w1 ≡ Some e → ea_in Format.Mem v w1 ≡ Some e
ea_keeps e w v w1 e12 e13 base low h =
    let a = address_of w w1 e h in
    let four : bit w 12 ≡ true → field v 10 4 ≡ field w 10 4 = λ t.
    let two = low.tail (ap not (long_tells w e.mode t a.mode).1) in omega arith in
    let mode : mode_in v ≡ Some e.mode = mode_same v w (sym e12) (sym e13) four ∙ a.mode in
    let whole : if_scaled (address_in e.mode w w1) ≡ Some e = rw a.mode at h in
    ap (option_and_then (λ m. if_scaled (address_in m v w1))) mode ∙ ap if_scaled (address_same e.mode w v w1 base low) ∙ whole

-- ---- instructions

pub mem_keeps : (w v w1 : ℕ) (i : Inst) → (row_of i.op).format ≡ Format.Mem → SameWhere (mem_fields (is_used (row_of i.op).c) i.ea.mode) w v → Encodes w w1 i → Encodes v w1 i
mem_keeps w v w1 i f h form =
    let r = row_of i.op in
    let c19 = h.1 in let base = c19.1 in let b13 = base.1 in let b12 = b13.1 in
    let low = low_parts i.ea.mode w v b12.1 in
    let ea : ea_in Format.Mem v w1 ≡ Some i.ea = ea_keeps i.ea w v w1 (b12.0 refl) (b13.0 refl) base.0 low (rw f at form.ea) in
    record {
      name = record { opcode = form.name.opcode ∙ h.0 refl; extension = rw f (rw f at form.name.extension); formed = rw f (rw (address_of v w1 i.ea ea).mode refl) };
      a = rw f (rw f at form.a);
      b = rw f (rw f at form.b);
      c = rw f (sym (operand_same r.c false false false false (field w 19 5) (field v 19 5) (λ _. refl) (λ _. refl) c19.0) ∙ rw f at form.c);
      ea = rw f ea;
      disp = form.disp ∙ rw f (disp_keeps Format.Mem r.disp w v (λ _. refl));
      hint = form.hint ∙ hint_keeps r.hint w v (λ t. absurd (cc ((neither r.disp r.hint (row_fits_at i.op Format.Mem f).2).1)));
    }

pub mem_tells : (w v w1 : ℕ) (i : Inst) → (row_of i.op).format ≡ Format.Mem → Encodes w w1 i → Encodes v w1 i → SameWhere (mem_fields (is_used (row_of i.op).c) i.ea.mode) w v
mem_tells w v w1 i f x y =
    let r = row_of i.op in
    let m = i.ea.mode in
    let p = address_of w w1 i.ea (rw f at x.ea) in
    let q = address_of v w1 i.ea (rw f at y.ea) in
    let bits = mode_bits m w v p.mode q.mode in
    let c = read_twice r.c i.c false false false false (field w 19 5) (field v 19 5) (rw f at x.c) (rw f at y.c) in
    let low : LowSame m w v = record {
      offset = offset_tells m w v w1 i.ea.disp (ap (λ z. z.disp) p.parts) (ap (λ z. z.disp) q.parts);
      tail = bits.tail;
      scale = part_tells (has_index m) w v 7 3 i.ea.scale (ap (λ z. z.scale) p.parts) (ap (λ z. z.scale) q.parts);
      index = part_tells (has_index m) w v 0 5 i.ea.index (ap (λ z. z.index) p.parts) (ap (λ z. z.index) q.parts);
    } in
    let base = part_tells (has_base m) w v 14 5 i.ea.base (ap (λ z. z.base) p.parts) (ap (λ z. z.base) q.parts) in
    let op : field w 24 8 ≡ field v 24 8 = cc in
    search (rules, op, c.number, base, bits.bit13, bits.bit12, low_whole m w v low)
