use Rattle.std.proofs.Common.{◌≤◌, ℕ, subst, arith}
use Rattle.std.proofs.lemmas.Bool.{both_ways}
use Rattle.i9_tune.proofs.Plain.{early_by}
use Rattle.i9_tune.proofs.Fronts.{free_is, front_more}
use Rattle.i9_tune.proofs.Chosen.{issue_of, look_first, look_past, look_better}
use Rattle.i9_tune.proofs.greedy.choose.Goals as goal
use Rattle.i9_tune.proofs.greedy.choose.Goals.{then-not-binds+then-turn-least, then-not-binds+else-turn-least, else-not-binds}

pub loop-k-init : goal.loop-k-init
loop-k-init c = record {
  within = c.requires.some;
  front = front_more c.args.left.now 0 _ c.plain_need-first.result c.new-front.result c.add.new.self c.add.ensures c.requires.some c.plain_need-first.ensures.need c.new-front.ensures;
  best = λ taken stands. look_first taken c.args.left.now _ c.next_turn-least.result c.requires.some
      (issue_of taken c.args.left.now 0 _ c.plain_need-first.result _ c.plain_need-first.ensures.need (c.next_turn-least.ensures.computed _ stands));
}

pub next_turn-turn-requires-clause-early : goal.next_turn-turn-requires-clause-early
next_turn-turn-requires-clause-early c = early_by _ _ 20000 c.requires.early (omega arith) c.plain_need-need.ensures.early c.plain_need-need.ensures.few

pub loop-k-preserved : goal.loop-k-preserved
loop-k-preserved c =
    let left = c.args.left.now in
    let k = c.loop-k.k in
    let need = c.plain_need-need in
    let test = c.loop-k-test.true in
    let was = c.loop-k.invariant in
    let front = front_more left k _ need.result c.loop-k.front c.add-in-loop-k.new.self c.add-in-loop-k.ensures test need.ensures.need was.front in
    elim c.if-not-binds.branch [
      | then-not-binds+then-turn-least w ↦ record {
        within = rw w.best-is test;
        front = front;
        best = λ taken stands. rw (w.best-is, w.least-is) (look_better taken left k _ test w.next_turn-turn.result c.loop-k.best c.loop-k.least (was.best taken stands)
            (free_is left k _ c.loop-k.front need.result _ _ need.ensures.need was.front c.binds.ensures w.if-not-binds.true)
            (issue_of taken left k _ need.result _ need.ensures.need (w.next_turn-turn.ensures.computed _ stands)) w.if-turn-least.true);
      }
      | then-not-binds+else-turn-least w ↦ record {
        within = rw w.best-is was.within;
        front = front;
        best = λ taken stands. rw (w.best-is, w.least-is) (look_past taken left k _ test c.loop-k.best c.loop-k.least (was.best taken stands)
            (λ free. subst (λ (n : ℕ). c.loop-k.least ≤ n) (issue_of taken left k _ need.result _ need.ensures.need (w.next_turn-turn.ensures.computed _ stands)) w.if-turn-least.false));
      }
      | else-not-binds w ↦ record {
        within = rw w.best-is was.within;
        front = front;
        best = λ taken stands. rw (w.best-is, w.least-is) (look_past taken left k _ test c.loop-k.best c.loop-k.least (was.best taken stands)
            (λ free. absurd (both_ways _ (free_is left k _ c.loop-k.front need.result _ _ need.ensures.need was.front c.binds.ensures w.if-not-binds.false) free)));
      }
    ]
