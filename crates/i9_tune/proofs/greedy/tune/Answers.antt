use Rattle.std.proofs.Common.{◌≤◌, List, length, sym, subst, arith, rules}
use Rattle.i9_isa.specs.declared.inst.Inst.{Inst}
use Rattle.i9_tune.specs.Greedy.{AreTunable}
use Rattle.i9_tune.specs.Orders.{IsOrder}
use Rattle.i9_tune.proofs.Orders.{own_order}
use Rattle.i9_tune.proofs.Tuned.{IsFine, greedy_fine}
use Rattle.i9_tune.proofs.greedy.tune.Goals as goal
use Rattle.i9_tune.proofs.greedy.tune.Goals.{In_ok-order}

fine : (c : In_ok-order) → IsFine c.args.block.now c.in_ok-order.order.items
fine c = greedy_fine c.args.block.now c.in_ok-order.order.items c.requires.tunable c.in_ok-order.ensures.order

pub span-requires-clause-tunable : goal.span-requires-clause-tunable
span-requires-clause-tunable c = subst AreTunable (sym c.deref.ensures.value) (fine (goal.at.span-requires-clause-tunable c).In_ok-order).tunable

pub span-requires-clause-few : goal.span-requires-clause-few
span-requires-clause-few c =
    let f = fine (goal.at.span-requires-clause-few c).In_ok-order in
    let count = f.count in
    let few = c.requires.few in
    subst (λ (is : List Inst). length is ≤ 64) (sym c.deref.ensures.value) (omega arith)

pub returns-then-span : goal.returns-then-span
returns-then-span c =
    let f = fine (goal.at.returns-then-span c).In_ok-order in
    record { tuned = search rules; order = f.is; no_more = search rules; tunable = f.tunable; count = f.count }

pub returns-in-Ok-clause-order : goal.returns-in-Ok-clause-order
returns-in-Ok-clause-order c = subst (IsOrder c.args.block.now) (sym c.in-Ok.ensures.items) (own_order c.args.block.now)
