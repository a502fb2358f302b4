-- The registers that a valid instruction writes are there.
use Rattle.std.proofs.Common.{◌≡◌, ℕ, zero, suc, ◌+◌, ◌%◌, ◌<◌, ◌≤◌, Bool, true, false, nat_lt, ◌&&◌, refl, sym, subst, add-zero, zero-add, arith}
use Rattle.std.proofs.lemmas.Bool.{and_parts, eqb-true}
use Rattle.std.specs.Prelude.{nat_le, ◌==◌}
use Rattle.std.proofs.lemmas.Bool.Decides.{nat_tests}
use Rattle.i9_isa.specs.declared.op.Op.{Op}
use Rattle.i9_isa.specs.declared.op.Op.TheVariants.{Lda}
use Rattle.i9_isa.specs.declared.inst.Operand.{Operand}
use Rattle.i9_isa.specs.declared.inst.Operand.TheVariants.{Reg}
use Rattle.i9_isa.specs.declared.inst.Inst.{Inst}
use Rattle.i9_isa.specs.declared.format.Use.{Use}
use Rattle.i9_isa.specs.declared.format.Use.TheVariants.{Unused, Destination, Load}
use Rattle.i9_isa.specs.Operands.{takes, words_written, starts_group}
use Rattle.i9_isa.specs.Table.{row_of}
use Rattle.i9_isa.specs.Valid.{IsValid}
use Rattle.i9_plan.specs.Names.{HasGroup}
use Rattle.i9_model.specs.Results.{destination_words}
use Rattle.i9_model.specs.Step.{destination}

small : (r : ℕ) (b : Bool) → (nat_lt r 32 && b) ≡ true → r < 32
small r b t = let h = (and_parts (nat_lt r 32) b t).0 in grind (arith, nat_tests, h)

register_small : (u : Use) (r : ℕ) → takes u (Reg r) ≡ true → r < 32
register_small Unused r t = grind (arith, nat_tests, t)
register_small _ r t = grind (arith, nat_tests, t)

-- ---- the registers of a result

even_end : (r : ℕ) → r < 32 → (r % 2 == 0) ≡ true → r + 2 ≤ 32
even_end r h t = let e = eqb-true _ _ t in omega (arith, e)

fourth_end : (r n : ℕ) → n ≤ 4 → r < 32 → (r % 4 == 0) ≡ true → r + n ≤ 32
fourth_end r n few h t = let e = eqb-true _ _ t in omega (arith, e)

group_end : (n r : ℕ) → nat_le n 4 ≡ true → starts_group n r ≡ true → r + n ≤ 32
group_end zero r few t = let h = small r (r % 4 == 0) t in omega arith
group_end (suc zero) r few t = let h = small r true t in omega arith
group_end (suc (suc zero)) r few t = even_end r (small r (r % 2 == 0) t) (and_parts (nat_lt r 32) (r % 2 == 0) t).1
group_end (suc (suc (suc zero))) r few t = fourth_end r 3 (omega arith) (small r (r % 4 == 0) t) (and_parts (nat_lt r 32) (r % 4 == 0) t).1
group_end (suc (suc (suc (suc zero)))) r few t = fourth_end r 4 (omega arith) (small r (r % 4 == 0) t) (and_parts (nat_lt r 32) (r % 4 == 0) t).1
group_end (suc (suc (suc (suc (suc n))))) r few t = absurd (grind (arith, nat_tests, few))

group_of : (u : Use) (o : Operand) → nat_le (words_written u) 4 ≡ true → takes u o ≡ true → HasGroup o (words_written u)
group_of (Destination n) (Reg r) few t = group_end n r few t
group_of (Load n) (Reg r) few t = group_end n r few t
group_of u (Reg r) few t = let h = register_small u r t in omega arith
group_of u _ few t = tt

one_of : (u : Use) (o : Operand) → takes u o ≡ true → HasGroup o 1
one_of u (Reg r) t = let h = register_small u r t in omega arith
one_of u _ t = tt

-- at most four words are written, and by src1 or by src/dst alone
few_written : (op : Op) → (nat_le (words_written (row_of op).a) 4 ≡ true) × (nat_le (words_written (row_of op).c) 4 ≡ true)
    × ((words_written (row_of op).a == 0) ≡ false → words_written (row_of op).c ≡ 0)
few_written Lda = (refl, refl, λ e. cc)
few_written _ = (refl, refl, λ e. cc)

group_by : (i : Inst) (first : Bool) → (words_written (row_of i.op).a == 0) ≡ first → IsValid i → HasGroup (destination i) (destination_words i.op)
group_by i true e v = let none = eqb-true _ _ e in rw (e, none, zero-add) (group_of (row_of i.op).c i.c (few_written i.op).1 v.c)
group_by i false e v = let none = (few_written i.op).2 e in rw (e, none, add-zero) (group_of (row_of i.op).a i.a (few_written i.op).0 v.a)

-- the registers of a result are there
pub result_group : (i : Inst) (n : ℕ) → IsValid i → n ≡ destination_words i.op → HasGroup (destination i) n
result_group i n v e = subst (HasGroup (destination i)) (sym e) (group_by i (words_written (row_of i.op).a == 0) refl v)

-- those of src/dst, as many as the row says, and the first one
pub load_group : (i : Inst) (n : ℕ) → IsValid i → words_written (row_of i.op).c ≡ n → HasGroup i.c n
load_group i n v e = subst (HasGroup i.c) e (group_of (row_of i.op).c i.c (few_written i.op).1 v.c)

pub first_register : (i : Inst) → IsValid i → HasGroup i.c 1
first_register i v = one_of (row_of i.op).c i.c v.c

pub ruleset group_rules = (result_group, load_group, first_register)
