use Rattle.std.proofs.Common.{sym}
use Rattle.i9_tool.proofs.Refusals.{line-file}
use Rattle.i9_tool.proofs.refusal.print_line.Goals as goal

pub print_refusal-requires : goal.print_refusal-requires
print_refusal-requires g c = record { line = rw c.word_of.ensures (line-file c.args.kind (c.args.line, c.args.fault)) }

pub returns : goal.returns
returns g c = rw (sym c.word_of.ensures) c.print_refusal.ensures
