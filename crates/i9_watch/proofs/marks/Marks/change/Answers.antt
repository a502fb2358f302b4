use Rattle.std.proofs.Common.{◌≡◌, refl, arith}
use Rattle.i9_watch.specs.Marks.{is_marked}
use Rattle.i9_watch.proofs.Marking.{change_none, change_more}
use Rattle.i9_watch.proofs.marks.Marks.change.Goals as goal

pub loop-done-init : goal.loop-done-init
loop-done-init c = record {
  within = omega arith;
  blocks = λ _. refl;
  marks = λ m. change_none c.args.change m c.args.a (is_marked m c.args.self.now);
  keeps = λ p h. h;
  no_more = λ p h. h;
}

pub loop-done-preserved : goal.loop-done-preserved
loop-done-preserved c = record {
  within = omega arith;
  blocks = λ e.
      let done = c.loop-done.invariant.blocks e in
      let run = c.requires.blocks e in
      let count = c.count_in_page-count.ensures.blocks (omega (arith, done, run.0)) (omega (arith, done, run.1)) in
      omega (arith, done, count);
  marks = λ m. change_more c.args.change m c.args.a c.loop-done.done _ _ _ _ (c.loop-done.invariant.marks m) (c.change_in_page.ensures.marks m);
  keeps = λ p h. c.change_in_page.ensures.keeps p (c.loop-done.invariant.keeps p h);
  no_more = λ p h. c.loop-done.invariant.no_more p (c.change_in_page.ensures.no_more p h);
}

pub returns-clause-marks : goal.returns-clause-marks
returns-clause-marks c = λ m. let all : c.loop-done.done ≡ c.args.n = omega arith in rw all at (c.loop-done.invariant.marks m)
