use Rattle.std.proofs.Common.{◌≡◌, ◌+◌, ◌*◌, ◌/◌, sym, subst, arith}
use Rattle.i9_model.specs.Writes.{wrapped}
use Rattle.i9_watch.specs.Marks.{HasRoom}
use Rattle.i9_model.proofs.Readings.{next_place}
use Rattle.i9_watch.proofs.Runs.{run_none, run_step, run_inside, runs_unset}
use Rattle.i9_watch.proofs.marks.Marks.change_runs.Goals as goal

pub loop-k-init : goal.loop-k-init
loop-k-init c = record { marks = λ m. run_none c.args.change m c.args.a c.args.width c.args.bits _; keeps = λ p h. h; no_more = λ p h. h }

pub loop-k-preserved : goal.loop-k-preserved
loop-k-preserved c = record {
  marks = λ m. run_step c.args.change m c.args.a c.args.width c.args.bits c.loop-k.k _ _ _ (c.loop-k.invariant.marks m) (c.change_if.ensures.marks m);
  keeps = λ p h. c.change_if.ensures.keeps p (c.loop-k.invariant.keeps p h);
  no_more = λ p h. c.loop-k.invariant.no_more p (c.change_if.ensures.no_more p h);
}

pub returns-clause-marks : goal.returns-clause-marks
returns-clause-marks c = λ m. let all : c.loop-k.k ≡ c.args.count = omega arith in rw all at (c.loop-k.invariant.marks m)

pub change_if-requires-clause-room : goal.change_if-requires-clause-room
change_if-requires-clause-room c = λ j l.
    let at = c.args.width * c.loop-k.k in
    let there : HasRoom c.args.self.now (wrapped (c.args.a + (at + j))) = c.requires.room (at + j) (run_inside c.args.width c.loop-k.k c.args.count j (omega arith) l) in
    subst (HasRoom c.loop-k.self) (sym (next_place c.args.a at j)) (c.loop-k.invariant.keeps (wrapped (c.args.a + (at + j)) / 256) there)

pub returns-then-bits-eq0-clause-marks : goal.returns-then-bits-eq0-clause-marks
returns-then-bits-eq0-clause-marks c = λ m. runs_unset c.args.change m c.args.a c.args.width c.args.bits c.args.count _ c.if-bits-eq0.true
