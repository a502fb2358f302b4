-- Sets of resources as numbers, and which instructions have a data access.
use Rattle.std.proofs.Common.{◌≡◌, ℕ, ◌+◌, ◌%◌, ◌^◌, ◌<◌, ◌≤◌, Bool, true, false, cond, ◌&&◌, leb, refl, sym, ap, inl, inr, ◌∙◌, arith}
use Rattle.std.specs.Prelude.{◌==◌, nat_lt}
use Rattle.std.specs.Int.{from_bool}
use Rattle.std.proofs.lemmas.Bool.{cases_lt, or_from, and_parts}
use Rattle.std.proofs.lemmas.Bool.Decides.{nat_tests}
use Rattle.std.proofs.lemmas.Nat.Bits.{bit_at_above, same_from_bits_below}
use Rattle.i9_isa.specs.declared.op.Op.{Op}
use Rattle.i9_isa.specs.declared.op.Op.TheVariants.{Notbit, Stob}
use Rattle.i9_isa.specs.declared.format.Format.{Format}
use Rattle.i9_isa.specs.declared.format.Use.{Use}
use Rattle.i9_isa.specs.declared.format.Use.TheVariants.{Unused, Source, Left, Right, Destination, Load, Store, Change}
use Rattle.i9_isa.specs.declared.inst.Operand.{Operand}
use Rattle.i9_isa.specs.declared.inst.Operand.TheVariants.{Reg, Lit, Sfr}
use Rattle.i9_isa.specs.declared.inst.Ea.{Ea}
use Rattle.i9_isa.specs.declared.inst.Inst.{Inst}
use Rattle.i9_isa.specs.declared.resources.TheConstants.{CONDITION_CODE, LINK, FRAME_POINTER, LOCALS}
use Rattle.i9_isa.specs.Operands.{takes, starts_group, words_read, words_written, has_base, has_index, no_address}
use Rattle.i9_isa.specs.Resources.{IsSetOf, is_in_group, is_in_operand, is_in_frame, is_read, is_written, reads_code, writes_code, writes_link, changes_frame}
use Rattle.i9_isa.specs.Table.{row_of}
use Rattle.i9_isa.specs.Valid.{IsValid, FitsAddress}
use Rattle.i9_model.specs.Needs.{set_below, set_of, is_store_name, has_access}
use Rattle.i9_model.proofs.SetLaws.{set_bits, below_pow}

-- ---- two numbers with the same bits

-- a number with the bits of a set of resources is its number
pub same_set : (x : ℕ) (p : ℕ → Bool) → x < 2 ^ 64 → IsSetOf x p → ((k : ℕ) → 33 ≤ k → p k ≡ false) → x ≡ set_of p
same_set x p fits bits none =
    let small : set_of p < 2 ^ 33 = below_pow 33 p in
    same_from_bits_below 64 x (set_of p) fits (omega (arith, small)) (λ k lt. elim (cases_lt k 33) [
      | inl low ↦ bits k ∙ sym (set_bits 33 k p low)
      | inr high ↦ bits k ∙ ap from_bool (none k high) ∙ sym (bit_at_above (set_of p) 33 k small high)
    ])

-- ---- what a valid instruction has are resources

ends_by : (one two : Bool) (n r : ℕ) → (n == 1) ≡ one → (n == 2) ≡ two → n ≤ 4 → nat_lt r 32 ≡ true
    → cond one true (cond two (r % 2 == 0) (r % 4 == 0)) ≡ true → r + n ≤ 33
ends_by true two n r e f few lt h = grind (arith, nat_tests, e, lt)
ends_by false true n r e f few lt h = grind (arith, nat_tests, f, lt)
ends_by false false n r e f few lt h = grind (arith, nat_tests, e, f, lt, h)

group_ends : (n r : ℕ) → n ≤ 4 → starts_group n r ≡ true → r + n ≤ 33
group_ends n r few h =
    let parts = and_parts (nat_lt r 32) (cond (n == 1) true (cond (n == 2) (r % 2 == 0) (r % 4 == 0))) h in
    ends_by (n == 1) (n == 2) n r refl refl few parts.0 parts.1

beyond_group : (r n k : ℕ) → r + n ≤ 33 → 33 ≤ k → is_in_group r n k ≡ false
beyond_group r n k ends high = grind (arith, nat_tests, ends, high)

empty_group : (r k : ℕ) → is_in_group r 0 k ≡ false
empty_group r k = grind (arith, nat_tests)

one_ends : (r : ℕ) → nat_lt r 32 ≡ true → r + 1 ≤ 33
one_ends r h = grind (arith, nat_tests, h)

beyond_read : (u : Use) (o : Operand) (k : ℕ) → words_read u ≤ 4 → takes u o ≡ true → 33 ≤ k → is_in_operand o (words_read u) k ≡ false
beyond_read u (Lit l) k few h high = refl
beyond_read u (Sfr s) k few h high = refl
beyond_read Unused (Reg r) k few h high = empty_group r k
beyond_read (Source n) (Reg r) k few h high = beyond_group r n k (group_ends n r few h) high
beyond_read Left (Reg r) k few h high = beyond_group r 1 k (one_ends r h) high
beyond_read Right (Reg r) k few h high = beyond_group r 1 k (one_ends r h) high
beyond_read (Destination n) (Reg r) k few h high = empty_group r k
beyond_read (Load n) (Reg r) k few h high = empty_group r k
beyond_read (Store n) (Reg r) k few h high = beyond_group r n k (group_ends n r few h) high
beyond_read Change (Reg r) k few h high = beyond_group r 1 k (one_ends r h) high

beyond_written : (u : Use) (o : Operand) (k : ℕ) → words_written u ≤ 4 → takes u o ≡ true → 33 ≤ k → is_in_operand o (words_written u) k ≡ false
beyond_written u (Lit l) k few h high = refl
beyond_written u (Sfr s) k few h high = refl
beyond_written Unused (Reg r) k few h high = empty_group r k
beyond_written (Source n) (Reg r) k few h high = empty_group r k
beyond_written Left (Reg r) k few h high = empty_group r k
beyond_written Right (Reg r) k few h high = empty_group r k
beyond_written (Destination n) (Reg r) k few h high = beyond_group r n k (group_ends n r few h) high
beyond_written (Load n) (Reg r) k few h high = beyond_group r n k (group_ends n r few h) high
beyond_written (Store n) (Reg r) k few h high = empty_group r k
beyond_written Change (Reg r) k few h high = beyond_group r 1 k (one_ends r h) high

record AreFew (op : Op) : Type 0 where
  read_a : leb (words_read (row_of op).a) 4 ≡ true
  read_b : leb (words_read (row_of op).b) 4 ≡ true
  read_c : leb (words_read (row_of op).c) 4 ≡ true
  written_a : leb (words_written (row_of op).a) 4 ≡ true
  written_c : leb (words_written (row_of op).c) 4 ≡ true

few_words : (op : Op) → AreFew op
few_words Notbit = record { read_a = refl; read_b = refl; read_c = refl; written_a = refl; written_c = refl }
few_words _ = record { read_a = refl; read_b = refl; read_c = refl; written_a = refl; written_c = refl }

at_most : (n : ℕ) → leb n 4 ≡ true → n ≤ 4
at_most n h = grind (arith, nat_tests, h)

below_limit : (b : Bool) (n : ℕ) → nat_lt n (cond b 32 1) ≡ true → n < 32
below_limit true n h = grind (arith, nat_tests, h)
below_limit false n h = grind (arith, nat_tests, h)

none_there : (e : Ea) → e ≡ no_address → (e.base < 32) × (e.index < 32)
none_there e h =
    let base : e.base ≡ 0 = ap (λ (x : Ea). x.base) h in
    let index : e.index ≡ 0 = ap (λ (x : Ea). x.index) h in
    (omega (arith, base), omega (arith, index))

-- base and index are registers
pub registers : (f : Format) (e : Ea) → FitsAddress f e → (e.base < 32) × (e.index < 32)
registers Format.Mem e h =
    let p = and_parts (nat_lt e.base (cond (has_base e.mode) 32 1)) _ h in
    let q = and_parts (nat_lt e.index (cond (has_index e.mode) 32 1)) _ p.1 in
    (below_limit (has_base e.mode) e.base p.0, below_limit (has_index e.mode) e.index q.0)
registers Format.Reg e h = none_there e h
registers Format.Cobr e h = none_there e h
registers Format.Ctrl e h = none_there e h

not_this : (b : Bool) (k n : ℕ) → n < 33 → 33 ≤ k → (b && (k == n)) ≡ false
not_this true k n lt high = grind (arith, nat_tests, lt, high)
not_this false k n lt high = refl

pub beyond_reads : (i : Inst) → IsValid i → (k : ℕ) → 33 ≤ k → is_read i k ≡ false
beyond_reads i valid k high =
    let few = few_words i.op in
    let ea = registers (row_of i.op).format i.ea valid.ea in
    let a = beyond_read (row_of i.op).a i.a k (at_most _ few.read_a) valid.a high in
    let b = beyond_read (row_of i.op).b i.b k (at_most _ few.read_b) valid.b high in
    let c = beyond_read (row_of i.op).c i.c k (at_most _ few.read_c) valid.c high in
    let base = not_this (has_base i.ea.mode) k i.ea.base (omega (arith, ea.0)) high in
    let index = not_this (has_index i.ea.mode) k i.ea.index (omega (arith, ea.1)) high in
    let code = not_this (reads_code i.op) k CONDITION_CODE (omega arith) high in
    or_from _ _ (or_from _ _ (or_from _ _ (or_from _ _ (or_from _ _ a b) c) base) index) code

beyond_frame : (k : ℕ) → 33 ≤ k → is_in_frame k ≡ false
beyond_frame k high = or_from _ _ (beyond_group 0 LOCALS k (omega arith) high) (not_this true k FRAME_POINTER (omega arith) high)

beyond_changed : (b : Bool) (k : ℕ) → 33 ≤ k → (b && is_in_frame k) ≡ false
beyond_changed true k high = beyond_frame k high
beyond_changed false k high = refl

pub beyond_writes : (i : Inst) → IsValid i → (k : ℕ) → 33 ≤ k → is_written i k ≡ false
beyond_writes i valid k high =
    let few = few_words i.op in
    let a = beyond_written (row_of i.op).a i.a k (at_most _ few.written_a) valid.a high in
    let c = beyond_written (row_of i.op).c i.c k (at_most _ few.written_c) valid.c high in
    let link = not_this (writes_link i.op) k LINK (omega arith) high in
    let frame = beyond_changed (changes_frame i.op) k high in
    let code = not_this (writes_code i.op) k CONDITION_CODE (omega arith) high in
    or_from _ _ (or_from _ _ (or_from _ _ (or_from _ _ a c) link) frame) code

-- the frame's number
pub frame_set : 2147549183 ≡ set_of is_in_frame
unfolding set_below
frame_set = refl

-- a store has a data access
pub stores_access : (op : Op) → is_store_name op ≡ true → has_access op ≡ true
stores_access Stob h = refl
stores_access _ h = grind (arith, h)
