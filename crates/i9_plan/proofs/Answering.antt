-- What a result gives, for names that have one and for those that have none.
use Rattle.std.proofs.Common.{◌≡◌, ℕ, ◌≤◌, false, List, [], ◌∷◌, length, Option, Some, None, refl, sym, ap, arith}
use Rattle.std.proofs.lemmas.Bool.{false≢true}
use Rattle.std.specs.Prelude.{is_some, IsNone, IsSome}
use Rattle.i9_isa.specs.declared.op.Op.{Op}
use Rattle.i9_isa.specs.declared.op.Op.TheVariants.{Movl}
use Rattle.i9_isa.specs.declared.inst.Inst.{Inst}
use Rattle.i9_model.specs.State.{State}
use Rattle.i9_model.specs.Operands.{source_words, value}
use Rattle.i9_model.specs.Results.{Answer, results, results_by, result_of}
use Rattle.i9_model.specs.Step.{answer_in}
use Rattle.i9_plan.specs.Names.{reads_more}
use Rattle.i9_exec.specs.declared.done.Done.{Done}

pub none_by : (o : Option Answer) → is_some o ≡ false → o ≡ None
none_by None e = refl
none_by (Some r) e = absurd cc

few_by : {F : Type 0} (o : Option F) (vs : List ℕ) (n : ℕ) → (IsNone o → length vs ≡ n) → (IsSome o → vs ≡ []) → length vs ≤ n
few_by None vs n whole none = let e = whole refl in omega (arith, e)
few_by (Some f) vs n whole none = let e = ap length (none refl) in omega (arith, e)

-- a result has at most as many words as its destination
pub answer_few : (d : Done) (n : ℕ) → (IsNone d.fault → length d.values.items ≡ n) → (IsSome d.fault → d.values.items ≡ []) → length d.values.items ≤ n
answer_few d n whole none = few_by d.fault d.values.items n whole none

pub ruleset answer_rules = (none_by, answer_few)

-- a name that looks at no further words has the same result whatever they are
by_first : (op : Op) (a b : List ℕ) (x y c ac : ℕ) → reads_more op ≡ false → results_by op (x ∷ 0 ∷ 0 ∷ 0 ∷ []) (y ∷ 0 ∷ []) 0 ac ≡ results_by op (x ∷ a) (y ∷ b) c ac
by_first Movl a b x y c ac h = absurd (false≢true (sym h))
by_first _ a b x y c ac h = cc

pub first_words : (i : Inst) (s : State) (ac : ℕ) → reads_more i.op ≡ false
    → results i (value s i.a ∷ 0 ∷ 0 ∷ 0 ∷ []) (value s i.b ∷ 0 ∷ []) 0 ac ≡ results i (source_words s i.a 4) (source_words s i.b 2) (value s i.c) ac
first_words i s ac h = by_first i.op _ _ (value s i.a) (value s i.b) (value s i.c) ac h

pub ruleset source_rules = (first_words)

-- a name whose sources have one word each has the result of these words, whatever stands behind them
by_words : (op : Op) (a b : List ℕ) (x y c ac : ℕ) (r : Answer) → result_of op x y c ac ≡ Some r → results_by op (x ∷ a) (y ∷ b) c ac ≡ Some r
by_words Movl a b x y c ac r e = absurd cc
by_words _ a b x y c ac r e = cc

pub one_answer : (i : Inst) (s : State) (x y : ℕ) (r : Answer) → x ≡ value s i.a → y ≡ value s i.b
    → result_of i.op x y (value s i.c) s.ac ≡ Some r → Some r ≡ answer_in i s
one_answer i s x y r a b e = sym (by_words i.op _ _ (value s i.a) (value s i.b) (value s i.c) s.ac r (rw (← a, ← b) e))
