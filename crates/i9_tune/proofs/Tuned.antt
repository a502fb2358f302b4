-- The tuned block is the greedy order or the block.
use Rattle.std.proofs.Common.{◌≡◌, ◌≤◌, List, [], length, sym, subst, arith}
use Rattle.std.specs.Prelude.{nat_lt}
use Rattle.std.proofs.lemmas.Bool.{cond_both}
use Rattle.std.proofs.lemmas.Bool.Decides.{nat_tests}
use Rattle.std.proofs.lemmas.List.Sorted.{length_permutation}
use Rattle.i9_isa.specs.declared.inst.Inst.{Inst}
use Rattle.i9_tune.specs.Orders.{IsOrder}
use Rattle.i9_tune.specs.Greedy.{span_of, IsGreedy, IsTuned, AreTunable}
use Rattle.i9_tune.proofs.Depend.{IsTunable, greedy_order}
use Rattle.i9_tune.proofs.Orders.{permuted, order_keeps, own_order}

pub tuned_order : (block tuned : List Inst) → AreTunable block → IsTuned block tuned → IsOrder block tuned
tuned_order block tuned ok t =
    subst (IsOrder block) (sym t.2)
    (cond_both (nat_lt (span_of t.0) (span_of block)) t.0 block (IsOrder block) (λ e. greedy_order [] block t.0 ok t.1) (λ e. own_order block))

pub tuned_no_more : (block tuned : List Inst) → IsTuned block tuned → span_of tuned ≤ span_of block
tuned_no_more block tuned t =
    subst (λ (is : List Inst). span_of is ≤ span_of block) (sym t.2)
    (cond_both (nat_lt (span_of t.0) (span_of block)) t.0 block (λ is. span_of is ≤ span_of block) (λ e. grind (arith, nat_tests, e)) (λ e. omega arith))

-- a greedy order may be tuned too, and has as many instructions
pub record IsFine (block order : List Inst) : Type 0 where
  pub is : IsOrder block order
  pub tunable : AreTunable order
  pub count : length order ≡ length block

pub greedy_fine : (block order : List Inst) → AreTunable block → IsGreedy [] block order → IsFine block order
greedy_fine block order ok greedy =
    let taken = greedy_order [] block order ok greedy in
    record { is = taken; tunable = order_keeps IsTunable block order taken ok; count = length_permutation block order (permuted block order taken) }
