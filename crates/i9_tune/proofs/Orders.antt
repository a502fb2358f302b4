-- An order of a block is a permutation of it, and keeps what holds of each instruction.
use Rattle.std.proofs.Common.{List, [], ◌∷◌, ◌++◌, refl, sym, subst}
use Rattle.std.specs.List.{AllByRecursion}
use Rattle.std.specs.List.Sorted.{IsPermutation}
use Rattle.std.proofs.lemmas.List.Elements.{All-from_recursion, recursion_from_All}
use Rattle.std.proofs.lemmas.List.Sorted.{IsPermutation-refl, IsPermutation-middle, IsPermutation-cons, IsPermutation-trans, All-permutation}
use Rattle.i9_isa.specs.declared.inst.Inst.{Inst}
use Rattle.i9_tune.specs.Orders.{IsOrder}

-- what holds of each holds of those before one of them, of that one, and of the others
pub parts_of : (P : Inst → Type 0) (before : List Inst) (x : Inst) (behind : List Inst) → AllByRecursion P (before ++ x ∷ behind)
    → AllByRecursion P before × P x × AllByRecursion P (before ++ behind)
parts_of P [] x behind all = (tt, all.0, all.1)
parts_of P (i ∷ before) x behind all = let rest = parts_of P before x behind all.1 in ((all.0, rest.0), rest.1, (all.0, rest.2))

pub permuted : (block order : List Inst) → IsOrder block order → IsPermutation block order
permuted block [] taken = subst (λ (is : List Inst). IsPermutation is []) (sym taken) (IsPermutation-refl [])
permuted block (x ∷ order) taken =
    subst (λ (is : List Inst). IsPermutation is (x ∷ order)) (sym taken.2)
    (IsPermutation-trans _ _ _ (IsPermutation-middle taken.0 x taken.1) (IsPermutation-cons x _ order (permuted (taken.0 ++ taken.1) order taken.4)))

pub order_keeps : (P : Inst → Type 0) (block order : List Inst) → IsOrder block order → AllByRecursion P block → AllByRecursion P order
order_keeps P block order taken all =
    recursion_from_All P order (All-permutation P block order (permuted block order taken) (All-from_recursion P block all))

-- a block is an order of itself
pub own_order : (block : List Inst) → IsOrder block block
own_order [] = refl
own_order (x ∷ block) = ([], block, refl, tt, own_order block)
