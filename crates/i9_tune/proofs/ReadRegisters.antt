-- A valid instruction reads registers, and its need says which, and whether it reads the condition code.
use Rattle.std.proofs.Common.{◌≡◌, ℕ, ◌%◌, ◌<◌, ◌≤◌, Bool, true, false, cond, ◌&&◌, refl, sym, ap, ◌∙◌, inl, inr, arith}
use Rattle.std.specs.Prelude.{◌==◌, nat_le}
use Rattle.std.specs.Int.{bit_at, from_bool}
use Rattle.std.proofs.lemmas.Bool.{and_parts, or_from, both_ways, cases_lt, false_from_ne_true}
use Rattle.std.proofs.lemmas.Bool.Decides.{nat_tests}
use Rattle.i9_isa.specs.declared.format.Use.{Use}
use Rattle.i9_isa.specs.declared.format.Use.TheVariants.{Source, Store}
use Rattle.i9_isa.specs.declared.inst.Operand.{Operand}
use Rattle.i9_isa.specs.declared.inst.Operand.TheVariants.{Reg}
use Rattle.i9_isa.specs.declared.inst.Inst.{Inst}
use Rattle.i9_isa.specs.declared.resources.TheConstants.{CONDITION_CODE}
use Rattle.i9_isa.specs.Operands.{takes, starts_group, words_read, has_base, has_index}
use Rattle.i9_isa.specs.Resources.{is_in_group, is_in_operand, is_read}
use Rattle.i9_isa.specs.Table.{row_of}
use Rattle.i9_isa.specs.Valid.{IsValid}
use Rattle.i9_model.specs.declared.need.Facts.{Facts}
use Rattle.i9_model.specs.Late.{resource, resources}
use Rattle.i9_model.specs.Needs.{inst_need}
use Rattle.i9_model.specs.State.{State}
use Rattle.i9_model.proofs.SetLaws.{set_bits}
use Rattle.i9_tune.specs.Deeds.{AgreeBeside, AreSameIn}
use Rattle.i9_tune.proofs.Sources.{is_register_read, each_few, Agree, register_is_read, code_is_read}
use Rattle.i9_need.proofs.Sets.{registers}

-- ---- all that is read is a register

group_below : (n r k : ℕ) → nat_le n 4 ≡ true → starts_group n r ≡ true → is_in_group r n k ≡ true → k < 32
group_below n r k few h inside = grind (arith, nat_tests, few, h, inside)

operand_below : (u : Use) (o : Operand) (k : ℕ) → nat_le (words_read u) 4 ≡ true → takes u o ≡ true → is_in_operand o (words_read u) k ≡ true → k < 32
operand_below (Source n) (Reg r) k few h inside = group_below n r k few h inside
operand_below (Store n) (Reg r) k few h inside = group_below n r k few h inside
operand_below _ _ k few h inside = grind (arith, nat_tests, h, inside)

operand_beyond : (u : Use) (o : Operand) (n k : ℕ) → nat_le n 4 ≡ true → nat_le (words_read u) n ≡ true → takes u o ≡ true → 32 ≤ k → is_in_operand o (words_read u) k ≡ false
operand_beyond u o n k most few h high =
    false_from_ne_true _ (λ inside. let below = operand_below u o k (grind (arith, nat_tests, most, few)) h inside in omega (arith, below, high))

not_this : (b : Bool) (k n : ℕ) → n < 32 → 32 ≤ k → (b && (k == n)) ≡ false
not_this b k n lt high = grind (arith, nat_tests, lt, high)

register_below : (i : Inst) (k : ℕ) → IsValid i → is_register_read i k ≡ true → k < 32
register_below i k valid h = elim (cases_lt k 32) [
  | inl lt ↦ lt
  | inr high ↦
      let few = and_parts _ _ (each_few i.op) in
      let fewer = and_parts _ _ few.0 in
      let ea = registers (row_of i.op).format i.ea valid.ea in
      let a = operand_beyond (row_of i.op).a i.a 4 k refl fewer.0 valid.a high in
      let b = operand_beyond (row_of i.op).b i.b 2 k refl fewer.1 valid.b high in
      let c = operand_beyond (row_of i.op).c i.c 4 k refl few.1 valid.c high in
      let base = not_this (has_base i.ea.mode) k i.ea.base ea.0 high in
      let index = not_this (has_index i.ea.mode) k i.ea.index ea.1 high in
      absurd (both_ways (is_register_read i k) (or_from _ _ (or_from _ _ (or_from _ _ (or_from _ _ a b) c) base) index) h)
]

-- ---- and is in the need

in_need : (f : Facts) (i : Inst) (k : ℕ) → k < resources → is_read i k ≡ true → bit_at (inst_need i f).reads k ≡ 1
in_need f i k lt h = set_bits 33 k (is_read i) lt ∙ ap from_bool h

as_register : (s : State) (k : ℕ) → k < 32 → resource s k ≡ s.regs k
as_register s k lt =
    let other : (k == CONDITION_CODE) ≡ false = grind (arith, nat_tests, lt) in
    ap (λ (b : Bool). cond b (s.ac % 8) (s.regs k)) other

pub agree_by_need : (f : Facts) (i : Inst) (s t : State) → IsValid i → AreSameIn (inst_need i f).reads s t → AgreeBeside i s t → Agree i s t
agree_by_need f i s t valid same beside = record {
  regs = λ k h. let lt = register_below i k valid h in
      sym (as_register s k lt) ∙ same.values k (omega (arith, lt)) (in_need f i k (omega (arith, lt)) (register_is_read i k h)) ∙ as_register t k lt;
  marks = λ k h. let lt = register_below i k valid h in same.marks k lt (in_need f i k (omega (arith, lt)) (register_is_read i k h));
  code = λ h. same.values CONDITION_CODE (omega arith) (in_need f i CONDITION_CODE (omega arith) (code_is_read i h));
  beside = beside;
}
