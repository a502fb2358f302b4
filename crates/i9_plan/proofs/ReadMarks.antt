-- Whether a source is marked, by the set of the resources that an instruction reads.
use Rattle.std.proofs.Common.{◌≡◌, ℕ, ◌+◌, ◌^◌, ◌<◌, ◌≤◌, Bool, true, false, refl, sym, ap, ◌∙◌, arith, inl, inr, ◌-◌}
use Rattle.i9_course.proofs.Timed.{first_of}
use Rattle.std.specs.Prelude.{◌==◌, ◌&&◌, ◌||◌, not, bit_and, None}
use Rattle.std.proofs.lemmas.Bool.{or_cases, or_parts, or_left, or_right, and_from}
use Rattle.std.specs.List.{list_any}
use Rattle.std.proofs.lemmas.Bool.Decides.{nat_tests}
use Rattle.i9_isa.specs.declared.op.Op.{Op}
use Rattle.i9_isa.specs.declared.op.Op.TheVariants.{Lda}
use Rattle.i9_isa.specs.declared.format.Format.{Format}
use Rattle.i9_isa.specs.declared.format.Format.TheVariants as formats
use Rattle.i9_isa.specs.declared.inst.Operand.{Operand}
use Rattle.i9_isa.specs.declared.inst.Operand.TheVariants.{Reg, Lit, Sfr}
use Rattle.i9_isa.specs.declared.inst.Ea.{Ea}
use Rattle.i9_isa.specs.declared.inst.Inst.{Inst}
use Rattle.i9_isa.specs.declared.resources.TheConstants.{CONDITION_CODE}
use Rattle.i9_isa.specs.Operands.{words_read, has_base, has_index, no_address}
use Rattle.i9_isa.specs.Table.{row_of}
use Rattle.i9_isa.specs.Transfers.{transfer_of}
use Rattle.i9_isa.specs.Resources.{IsSetOf, is_in_group, is_in_operand, is_read, reads_code}
use Rattle.i9_isa.specs.Valid.{IsValid, FitsAddress}
use Rattle.i9_isa.specs.Words.{bit}
use Rattle.i9_model.specs.State.{State}
use Rattle.i9_model.specs.Stale.{registers_of, sources, is_marked}
use Rattle.i9_plan.proofs.MarkUses.{is_listed, sources_parts}
use Rattle.i9_plan.proofs.MarkBits.{as_bool, zero_bits, some_bit, both_bits, bit_above, none_among, some_among}

-- ---- the registers of an operand

in_range : (r n k : ℕ) → is_in_group r n k ≡ true → (r ≤ k) × (k < r + n)
in_range r n k t = (grind (arith, nat_tests), grind (arith, nat_tests))

range_in : (r n k : ℕ) → k < n → is_in_group r n (r + k) ≡ true
range_in r n k h = grind (arith, nat_tests)

none_of : (marks : ℕ → Bool) (o : Operand) (n k : ℕ) → list_any marks (registers_of o n) ≡ false → is_in_operand o n k ≡ true → marks k ≡ false
none_of marks (Reg r) n k e t =
    let place = in_range r n k t in
    let low = place.0 in let high = place.1 in
    let here : r + (k - r) ≡ k = omega (arith, low) in
    ap marks (sym here) ∙ none_among marks r n e (k - r) (omega (arith, low, high))
none_of marks (Lit l) n k e t = absurd cc
none_of marks (Sfr j) n k e t = absurd cc

-- a marked one
record IsMarkedIn (marks : ℕ → Bool) (p : ℕ → Bool) : Type 0 where
  pub place : ℕ
  pub inside : p place ≡ true
  pub marked : marks place ≡ true

some_of : (marks : ℕ → Bool) (o : Operand) (n : ℕ) → list_any marks (registers_of o n) ≡ true → IsMarkedIn marks (is_in_operand o n)
some_of marks (Reg r) n e =
    let one = some_among marks r n e in
    record { place = r + one.step; inside = range_in r n one.step one.few; marked = one.passes }
some_of marks (Lit l) n e = absurd cc
some_of marks (Sfr j) n e = absurd cc

-- ---- all that is read

-- where there is no address, an operand is read or the condition code
by_part : (x : Bool) (a b c d e f : Bool) → d ≡ false → e ≡ false → (a || b || c || d || e || f) ≡ true → (a ≡ true → x ≡ false) → (b ≡ true → x ≡ false) → (c ≡ true → x ≡ false) → (f ≡ true → x ≡ false) → x ≡ false
by_part x a b c d e f p q t h j k l = grind arith

-- no mark is one of the condition code
code_unmarked : (w k : ℕ) (reads : Bool) → w < 2 ^ 32 → (reads && (k == CONDITION_CODE)) ≡ true → bit w k ≡ false
code_unmarked w k reads small t = bit_above w 32 k small (grind (arith, nat_tests))

-- an address that is none has no part
no_base : (e : Ea) (k : ℕ) → e ≡ no_address → (has_base e.mode && (k == e.base)) ≡ false
no_base e k plain = ap (λ (a : Ea). has_base a.mode && (k == a.base)) plain

no_index : (e : Ea) (k : ℕ) → e ≡ no_address → (has_index e.mode && (k == e.index)) ≡ false
no_index e k plain = ap (λ (a : Ea). has_index a.mode && (k == a.index)) plain

-- marks that are read, where there is no address
pub sources_marked : (i : Inst) (s : State) (w bits : ℕ) → w < 2 ^ 32 → ((r : ℕ) → bit w r ≡ s.marks r) → IsSetOf bits (is_read i) → i.ea ≡ no_address → not (bit_and w bits == 0) ≡ is_marked s (sources i)
sources_marked i s w bits small marks reads plain = by (is_marked s (sources i)) refl
  where
    read_bit : (k : ℕ) → bit bits k ≡ is_read i k
    read_bit k = ap (λ (n : ℕ). n == 1) (reads k) ∙ as_bool (is_read i k)

    set : (k : ℕ) → s.marks k ≡ true → is_read i k ≡ true → not (bit_and w bits == 0) ≡ true
    set k marked read = ap not (some_bit (bit_and w bits) k (both_bits w bits k ∙ and_from (bit w k) (bit bits k) (marks k ∙ marked) (read_bit k ∙ read)))

    found : (o : Operand) (n : ℕ) → list_any s.marks (registers_of o n) ≡ true → ((k : ℕ) → is_in_operand o n k ≡ true → is_read i k ≡ true) → not (bit_and w bits == 0) ≡ true
    found o n e read = let one = some_of s.marks o n e in set one.place one.marked (read one.place one.inside)

    by : (b : Bool) → is_marked s (sources i) ≡ b → not (bit_and w bits == 0) ≡ b
    by true e =
        let inside_a = λ (k : ℕ) (t : is_in_operand i.a (words_read (row_of i.op).a) k ≡ true). first_of (is_in_operand i.a (words_read (row_of i.op).a) k) _ _ _ _ _ t in
        let inside_b = λ (k : ℕ) (t : is_in_operand i.b (words_read (row_of i.op).b) k ≡ true). or_left _ _ (or_left _ _ (or_left _ _ (or_left _ _ (or_right (is_in_operand i.a (words_read (row_of i.op).a) k) _ t)))) in
        let inside_c = λ (k : ℕ) (t : is_in_operand i.c (words_read (row_of i.op).c) k ≡ true). or_left _ _ (or_left _ _ (or_left _ _ (or_right (is_in_operand i.a (words_read (row_of i.op).a) k || is_in_operand i.b (words_read (row_of i.op).b) k) _ t))) in
        elim (or_cases _ _ (sym (sources_parts i s) ∙ e)) [
          | inl a ↦ found i.a (words_read (row_of i.op).a) a inside_a
          | inr rest ↦ elim (or_cases _ _ rest) [
            | inl b ↦ found i.b (words_read (row_of i.op).b) b inside_b
            | inr c ↦ found i.c (words_read (row_of i.op).c) c inside_c
          ]
        ]
    by false e =
        let split = or_parts _ _ (sym (sources_parts i s) ∙ e) in
        let later = or_parts _ _ split.1 in
        ap (λ (x : ℕ). not (x == 0)) (zero_bits (bit_and w bits) (λ k. both_bits w bits k ∙ unmarked k split.0 later.0 later.1))
      where
        unmarked : (k : ℕ) → list_any s.marks (registers_of i.a (words_read (row_of i.op).a)) ≡ false → list_any s.marks (registers_of i.b (words_read (row_of i.op).b)) ≡ false
            → list_any s.marks (registers_of i.c (words_read (row_of i.op).c)) ≡ false → (bit w k && bit bits k) ≡ false
        unmarked k a b c = flip (bit w k) (bit bits k) (λ t.
            by_part (bit w k) _ _ _ _ _ _ (no_base i.ea k plain) (no_index i.ea k plain) (sym (read_bit k) ∙ t)
            (λ h. marks k ∙ none_of s.marks i.a (words_read (row_of i.op).a) k a h)
            (λ h. marks k ∙ none_of s.marks i.b (words_read (row_of i.op).b) k b h)
            (λ h. marks k ∙ none_of s.marks i.c (words_read (row_of i.op).c) k c h)
            (λ h. code_unmarked w k (reads_code i.op) small h))
          where
            flip : (x y : Bool) → (y ≡ true → x ≡ false) → (x && y) ≡ false
            flip x y h = grind arith

-- ---- names without an address

abbrev is_mem : Format → Bool
is_mem formats.Mem = true
is_mem _ = false

fits_none : (f : Format) (e : Ea) → is_mem f ≡ false → FitsAddress f e → e ≡ no_address
fits_none formats.Reg e none fits = fits
fits_none formats.Mem e none fits = absurd cc
fits_none _ e none fits = fits

listed_format : (op : Op) → transfer_of op ≡ None → is_listed op ≡ false → is_mem (row_of op).format ≡ false
listed_format Lda still other = absurd cc
listed_format _ still other = cc

-- nor has a name that is not listed, and neither loads nor stores
pub other_plain : (i : Inst) → IsValid i → transfer_of i.op ≡ None → is_listed i.op ≡ false → i.ea ≡ no_address
other_plain i valid still other = fits_none (row_of i.op).format i.ea (listed_format i.op still other) valid.ea
