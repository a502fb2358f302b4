use Rattle.std.proofs.Common.{ℕ, ◌+◌, ◌*◌, ap, arith}
use Rattle.i9_model.specs.Writes.{wrapped}
use Rattle.i9_tune.proofs.Lines.{go_turn, go_end}
use Rattle.i9_tune.proofs.printing.add_lines.Goals as goal

pub loop-inst-preserved : goal.loop-inst-preserved
loop-inst-preserved c =
    let at = c.loop-inst.at in
    let aligned = c.loop-inst.invariant.aligned in
    record {
      aligned = omega (arith, aligned);
      lines = go_turn c.args.address c.args.block.now c.args.text.now.items at c.loop-inst.inst-index _ _ c.loop-inst.text.items c.add_line.new.text.items c.loop-inst-test.true c.in_ok-add_line.ensures
          (ap (λ (n : ℕ). wrapped (at + 4 * n)) c.word_count.ensures) c.loop-inst.invariant.lines;
    }

pub returns : goal.returns
returns c = go_end c.args.address c.args.block.now c.args.text.now.items c.loop-inst.at c.loop-inst.inst-index c.loop-inst.text.items c.loop-inst-test.false c.loop-inst.invariant.lines
