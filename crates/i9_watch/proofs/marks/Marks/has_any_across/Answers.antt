use Rattle.std.proofs.Common.{arith}
use Rattle.i9_watch.specs.Marks.{is_marked}
use Rattle.i9_watch.proofs.Marking.{none_more}
use Rattle.i9_watch.proofs.marks.Marks.has_any_across.Goals as goal

pub loop-done-preserved : goal.loop-done-preserved
loop-done-preserved c = record {
  within = omega arith;
  none = none_more (is_marked c.args.mark c.args.self.now) c.args.a c.loop-done.done c.count_in_page-count.result c.loop-done.invariant.none (c.has_any_in_page.ensures c.if-has_any_in_page.false);
}
