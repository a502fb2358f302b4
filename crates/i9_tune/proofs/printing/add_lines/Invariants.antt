use Rattle.std.proofs.Common.{◌≡◌, ◌%◌, drop}
use Rattle.i9_tune.proofs.Lines.{GoOn}
use Rattle.i9_tune.proofs.printing.add_lines.Given as goal

abbrev pub invariant-loop-inst : goal.invariant-loop-inst
invariant-loop-inst l = record {
  aligned : l.at % 4 ≡ 0;
  lines : GoOn l.address l.block l.fn.text.items l.at (drop l.inst-index l.block) l.text.items;
}
