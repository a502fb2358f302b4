-- Each valid instruction has words.
use Rattle.std.proofs.Common.{◌≡◌, ℕ, ◌+◌, ◌-◌, ◌*◌, ◌%◌, ◌^◌, ◌<◌, Bool, true, false, not, ltb, eqb, Some, refl, sym, ap, ◌∙◌, arith, inl, inr}
use Rattle.std.specs.Prelude.{ℤ, pos, negsuc}
use Rattle.std.specs.Int.{from_bool}
use Rattle.std.proofs.lemmas.Bool.{ltb-true, lt-ltb, le-ltb, eqb-true, and_parts, cases_Bool}
use Rattle.std.proofs.lemmas.Int.{ints}
use Rattle.i9_isa.specs.declared.op.Op.{Op}
use Rattle.i9_isa.specs.declared.inst.Inst.{Inst}
use Rattle.i9_isa.specs.declared.inst.Mode.{Mode}
use Rattle.i9_isa.specs.declared.inst.Mode.TheVariants.{Offset, BaseOffset, Base, Ip, BaseIndex, Disp, BaseDisp, IndexDisp, BaseIndexDisp}
use Rattle.i9_isa.specs.declared.format.Format.{Format}
use Rattle.i9_isa.specs.Operands.{field_number, is_address, has_offset, has_disp, disp_limit}
use Rattle.i9_isa.specs.Table.{row_of}
use Rattle.i9_isa.specs.Valid.{IsValid, FitsDisp, is_within}
use Rattle.i9_isa.specs.Words.{field, bit, signed_of, mode_in, Encodes}
use Rattle.i9_decode.specs.Ignored.{ignored_bits, HasNone}
use Rattle.i9_decode.specs.Spelling.{m_of, s_of}
use Rattle.i9_decode.proofs.Spelled.{number_small, row_fits_at}
use Rattle.i9_decode.proofs.Forms.{register_form, branch_form, control_form, memory_form, address_parts, address_read}
use Rattle.i9_decode.proofs.Clear.{register_clear, branch_clear, control_clear, memory_clear}
use Rattle.i9_decode.proofs.Modes.{mode_added}
use Rattle.i9_statement.proofs.ReadAddresses.{within}

-- a first word of the instruction, with no ignored bit set
pub record HasWord (i : Inst) : Type 0 where
  pub word : ℕ
  pub small : word < 2 ^ 32
  pub form : (w1 : ℕ) → (has_disp i.ea.mode ≡ true → i.ea.disp ≡ w1) → Encodes word w1 i
  pub clear : HasNone (ignored_bits i) word

opcode_small : (op : Op) → (row_of op).opcode < 256
opcode_small op = grind arith

flag_small : (b : Bool) → from_bool b < 2
flag_small b = grind arith

flag_read : (n : ℕ) (b : Bool) → n ≡ from_bool b → eqb n 1 ≡ b
flag_read n b e = grind arith

-- ---- the register format

-- the fields of a word of the register format
record RegisterFields (w o e a b c m1 s1 m2 s2 m3 : ℕ) : Type 0 where
  small : w < 2 ^ 32
  opcode : field w 24 8 ≡ o
  extension : field w 7 4 ≡ e
  src1 : field w 0 5 ≡ a
  bit_m1 : field w 11 1 ≡ m1
  bit_s1 : field w 5 1 ≡ s1
  src2 : field w 14 5 ≡ b
  bit_m2 : field w 12 1 ≡ m2
  bit_s2 : field w 6 1 ≡ s2
  src_dst : field w 19 5 ≡ c
  bit_m3 : field w 13 1 ≡ m3

abbrev register_sum : ℕ → ℕ → ℕ → ℕ → ℕ → ℕ → ℕ → ℕ → ℕ → ℕ → ℕ
register_sum o e a b c m1 s1 m2 s2 m3 =
    o * 16777216 + c * 524288 + b * 16384 + m3 * 8192 + m2 * 4096 + m1 * 2048 + e * 128 + s2 * 64 + s1 * 32 + a

register_fields : (o e a b c m1 s1 m2 s2 m3 : ℕ) → o < 256 → e < 16 → a < 32 → b < 32 → c < 32 → m1 < 2 → s1 < 2 → m2 < 2 → s2 < 2 → m3 < 2
    → RegisterFields (register_sum o e a b c m1 s1 m2 s2 m3) o e a b c m1 s1 m2 s2 m3
register_fields o e a b c m1 s1 m2 s2 m3 lo le la lb lc lm1 ls1 lm2 ls2 lm3 = search arith

register_word : (i : Inst) → IsValid i → (row_of i.op).format ≡ Format.Reg → HasWord i
register_word i v f =
    let r = row_of i.op in
    let m1 = m_of r.a i.a in let s1 = s_of r.a i.a in
    let m2 = m_of r.b i.b in let s2 = s_of r.b i.b in
    let m3 = m_of r.c i.c in
    let fits = row_fits_at i.op Format.Reg f in
    let w = register_fields r.opcode r.extension (field_number i.a) (field_number i.b) (field_number i.c)
    (from_bool m1) (from_bool s1) (from_bool m2) (from_bool s2) (from_bool m3)
    (opcode_small i.op) (ltb-true r.extension 16 fits.1) (number_small r.a i.a v.a) (number_small r.b i.b v.b) (number_small r.c i.c v.c)
    (flag_small m1) (flag_small s1) (flag_small m2) (flag_small s2) (flag_small m3) in
    let bm1 = flag_read _ m1 w.bit_m1 in let bs1 = flag_read _ s1 w.bit_s1 in
    let bm2 = flag_read _ m2 w.bit_m2 in let bs2 = flag_read _ s2 w.bit_s2 in
    let bm3 = flag_read _ m3 w.bit_m3 in
    record {
      word = _;
      small = w.small;
      form = λ w1 _. register_form _ w1 i v f w.opcode w.extension w.src1 bm1 bs1 w.src2 bm2 bs2 w.src_dst bm3;
      clear = register_clear _ i v f w.src1 bm1 bs1 w.src2 bm2 bs2 w.src_dst bm3;
    }

-- ---- the compare-and-branch and the control format

-- the low bits of a displacement
record LowDisp (width : ℕ) (z : ℤ) : Type 0 where
  low : ℕ
  small : low < 2 ^ width
  fours : low % 4 ≡ 0
  said : z ≡ signed_of width low

low_within : (width half : ℕ) → 2 ^ width ≡ 2 * half → 2 ^ (width - 1) ≡ half → half % 4 ≡ 0 → (z : ℤ) → is_within half z ≡ true → LowDisp width z
low_within width half twice once fours (pos n) h = grind (arith, and_parts, ltb-true, eqb-true, lt-ltb)
low_within width half twice once fours (negsuc n) h =
    let p = and_parts (ltb n half) (eqb (n % 4) 3) h in
    let l = ltb-true n half p.0 in
    let e = eqb-true (n % 4) 3 p.1 in
    record { low = 2 * half - 1 - n; small = omega arith; fours = omega arith; said = rw (once, le-ltb (2 * half - 1 - n) half (omega arith), twice) (omega (arith, ints)) }

near_low : (uses : Bool) (z : ℤ) → FitsDisp Format.Cobr uses z → LowDisp 13 z
near_low uses z h = grind (arith, low_within)

far_low : (uses : Bool) (z : ℤ) → FitsDisp Format.Ctrl uses z → LowDisp 24 z
far_low uses z h = grind (arith, low_within)

-- the fields of a word of the compare-and-branch format
record BranchFields (w o a b m s low hint : ℕ) : Type 0 where
  small : w < 2 ^ 32
  opcode : field w 24 8 ≡ o
  src1 : field w 19 5 ≡ a
  bit_m1 : field w 13 1 ≡ m
  src2 : field w 14 5 ≡ b
  bit_s2 : field w 0 1 ≡ s
  disp : field w 2 11 * 4 ≡ low
  predicted : field w 1 1 ≡ hint

abbrev branch_sum : ℕ → ℕ → ℕ → ℕ → ℕ → ℕ → ℕ → ℕ
branch_sum o a b m s low hint = o * 16777216 + a * 524288 + b * 16384 + m * 8192 + low + hint * 2 + s

branch_fields : (o a b m s low hint : ℕ) → o < 256 → a < 32 → b < 32 → m < 2 → s < 2 → low < 8192 → low % 4 ≡ 0 → hint < 2
    → BranchFields (branch_sum o a b m s low hint) o a b m s low hint
branch_fields o a b m s low hint lo la lb lm ls ll fours lh = search arith

branch_word : (i : Inst) → IsValid i → (row_of i.op).format ≡ Format.Cobr → HasWord i
branch_word i v f =
    let r = row_of i.op in
    let m = m_of r.a i.a in let s = s_of r.b i.b in
    let d = near_low r.disp i.disp (rw f at v.disp) in
    let w = branch_fields r.opcode (field_number i.a) (field_number i.b) (from_bool m) (from_bool s) d.low (from_bool i.hint)
    (opcode_small i.op) (number_small r.a i.a v.a) (number_small r.b i.b v.b) (flag_small m) (flag_small s) d.small d.fours (flag_small i.hint) in
    let bm = flag_read _ m w.bit_m1 in let bs = flag_read _ s w.bit_s2 in
    let bh = flag_read _ i.hint w.predicted in
    let said = d.said ∙ ap (signed_of 13) (sym w.disp) in
    record {
      word = _;
      small = w.small;
      form = λ w1 _. branch_form _ w1 i v f w.opcode w.src1 bm w.src2 bs said bh;
      clear = branch_clear _ i v f w.src2 bs said bh;
    }

-- the fields of a word of the control format
record ControlFields (w o low hint : ℕ) : Type 0 where
  small : w < 2 ^ 32
  opcode : field w 24 8 ≡ o
  disp : field w 2 22 * 4 ≡ low
  predicted : field w 1 1 ≡ hint
  rest : field w 0 1 ≡ 0

abbrev control_sum : ℕ → ℕ → ℕ → ℕ
control_sum o low hint = o * 16777216 + low + hint * 2

control_fields : (o low hint : ℕ) → o < 256 → low < 16777216 → low % 4 ≡ 0 → hint < 2 → ControlFields (control_sum o low hint) o low hint
control_fields o low hint lo ll fours lh = search arith

control_word : (i : Inst) → IsValid i → (row_of i.op).format ≡ Format.Ctrl → HasWord i
control_word i v f =
    let r = row_of i.op in
    let d = far_low r.disp i.disp (rw f at v.disp) in
    let w = control_fields r.opcode d.low (from_bool i.hint) (opcode_small i.op) d.small d.fours (flag_small i.hint) in
    let bh = flag_read _ i.hint w.predicted in
    let said = d.said ∙ ap (signed_of 24) (sym w.disp) in
    record {
      word = _;
      small = w.small;
      form = λ w1 _. control_form _ w1 i v f w.opcode said bh;
      clear = control_clear _ i v f said bh w.rest;
    }

-- ---- the memory format

-- a mode in bits 13 to 10
mode_number : Mode → ℕ
mode_number Offset = 0
mode_number BaseOffset = 8192
mode_number Base = 4096
mode_number Ip = 5120
mode_number BaseIndex = 7168
mode_number Disp = 12288
mode_number BaseDisp = 13312
mode_number IndexDisp = 14336
mode_number BaseIndexDisp = 15360

record ModeBits (m : Mode) (n : ℕ) : Type 0 where
  small : ltb n 16384 ≡ true
  mode : mode_in n ≡ Some m
  low : n % 1024 ≡ 0
  long : bit n 12 ≡ not (has_offset m)

mode_bits : (m : Mode) → ModeBits m (mode_number m)
unfolding mode_number
mode_bits m = grind arith

offset_small : (m : Mode) (n : ℕ) → has_offset m ≡ true → ltb n (disp_limit m) ≡ true → n < 4096
offset_small m n e h = grind arith

-- the fields of a first word of the memory format, above those of the address
record MemoryFields (w o c base : ℕ) : Type 0 where
  small : w < 2 ^ 32
  opcode : field w 24 8 ≡ o
  src_dst : field w 19 5 ≡ c
  base_field : field w 14 5 ≡ base

abbrev memory_sum : ℕ → ℕ → ℕ → ℕ → ℕ → ℕ
memory_sum o c base mode low = o * 16777216 + c * 524288 + base * 16384 + mode + low

memory_fields : (o c base mode low : ℕ) → o < 256 → c < 32 → base < 32 → mode + low < 16384 → MemoryFields (memory_sum o c base mode low) o c base
memory_fields o c base mode low lo lc lb lm = search arith

-- the low bits of the word of a mode without an offset
record LongFields (w index scale : ℕ) : Type 0 where
  index_field : field w 0 5 ≡ index
  scale_field : field w 7 3 ≡ scale
  gap : field w 5 2 ≡ 0

long_fields : (o c base mode index scale : ℕ) → mode % 1024 ≡ 0 → index < 32 → scale < 8 → LongFields (memory_sum o c base mode (scale * 128 + index)) index scale
long_fields o c base mode index scale em li ls = search arith

short_field : (o c base mode disp : ℕ) → mode % 4096 ≡ 0 → disp < 4096 → field (memory_sum o c base mode disp) 0 12 ≡ disp
short_field o c base mode disp em ld = omega arith

short_mode : (m : Mode) → has_offset m ≡ true → mode_number m % 4096 ≡ 0
unfolding mode_number
short_mode m e = grind arith

-- a word with the fields of an instruction of the memory format
memory_of : (i : Inst) (w : ℕ) → IsValid i → (row_of i.op).format ≡ Format.Mem → is_address i.ea ≡ true
    → MemoryFields w (row_of i.op).opcode (field_number i.c) i.ea.base → mode_in w ≡ Some i.ea.mode
    → (has_offset i.ea.mode ≡ false → LongFields w i.ea.index i.ea.scale) → (has_offset i.ea.mode ≡ true → field w 0 12 ≡ i.ea.disp) → HasWord i
memory_of i w v f ia w' em long short = record {
  word = w;
  small = w'.small;
  form = λ w1 d. memory_form w w1 i v f w'.opcode w'.src_dst em
      (address_read i.ea w w1 ia w'.base_field (λ t. (long t).index_field) (λ t. (long t).scale_field) short d) ia;
  clear = memory_clear w i v f ia w'.src_dst w'.base_field (λ t. (long t).index_field) (λ t. (long t).scale_field) (λ t. (long t).gap);
}

memory_word : (i : Inst) → IsValid i → (row_of i.op).format ≡ Format.Mem → HasWord i
memory_word i v f =
    let ia = rw f at v.ea in
    let r = row_of i.op in
    let c = field_number i.c in
    let m = mode_number i.ea.mode in
    let b = mode_bits i.ea.mode in
    let lm = ltb-true m 16384 b.small in
    let in_range = within i.ea ia in
    let above = r.opcode * 16777216 + c * 524288 + i.ea.base * 16384 in
    let fields = λ (low : ℕ) (room : m + low < 16384). memory_fields r.opcode c i.ea.base m low (opcode_small i.op) (number_small r.c i.c v.c) in_range.base room in
    elim (cases_Bool (has_offset i.ea.mode)) [
      | inl short ↦
          let low = i.ea.disp in
          let ll = offset_small i.ea.mode low short (address_parts i.ea ia).disp in
          let em = short_mode i.ea.mode short in
          let clear : bit m 12 ≡ false = b.long ∙ ap not short in
          let mode = mode_added above m low (omega arith) lm b.low (λ _. em) ll (λ t. absurd (cc)) in
          memory_of i (memory_sum r.opcode c i.ea.base m low) v f ia (fields low (omega (arith, em)))
          (mode ∙ b.mode) (λ t. absurd (cc)) (λ _. short_field r.opcode c i.ea.base m low em ll)
      | inr long ↦
          let low = i.ea.scale * 128 + i.ea.index in
          let ll : low < 1024 = omega arith in
          let set : bit m 12 ≡ true = b.long ∙ ap not long in
          let mode = mode_added above m low (omega arith) lm b.low (λ t. absurd (cc)) (omega arith) (λ _. ll) in
          memory_of i (memory_sum r.opcode c i.ea.base m low) v f ia (fields low (omega (arith, b.low)))
          (mode ∙ b.mode) (λ _. long_fields r.opcode c i.ea.base m i.ea.index i.ea.scale b.low in_range.index (omega arith)) (λ t. absurd (cc))
    ]

-- ---- every format

pub valid_word : (i : Inst) → IsValid i → HasWord i
valid_word i v = by_format (row_of i.op).format refl
  where
    by_format : (f : Format) → (row_of i.op).format ≡ f → HasWord i
    by_format Format.Reg f = register_word i v f
    by_format Format.Cobr f = branch_word i v f
    by_format Format.Ctrl f = control_word i v f
    by_format Format.Mem f = memory_word i v f
