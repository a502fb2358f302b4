use Rattle.std.proofs.Common.{rules}
use Rattle.i9_regs.proofs.Groups.{none_planned, none_left, one_planned, one_left}
use Rattle.i9_regs.proofs.file.File.plan_group.Goals as goal

pub loop-k-init : goal.loop-k-init
loop-k-init c = record {
  cells = λ r. none_planned c.args.register c.args.values.now c.args.done r _;
  left = λ r low. none_left c.args.register c.args.writes r;
}

pub loop-k-preserved : goal.loop-k-preserved
loop-k-preserved c =
    let a = c.args in
    let k = c.loop-k.k in
    let one = c.plan.ensures in
    record {
      cells = one_planned a.self.now c.loop-k.self c.plan.new.self a.register k a.values.now a.done c.loop-k.invariant.cells
          one.cell one.others;
      left = one_left c.loop-k.left a.writes a.register k (search rules) c.loop-k.invariant.left;
    }
