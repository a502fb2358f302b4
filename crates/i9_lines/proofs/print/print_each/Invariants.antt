use Rattle.std.proofs.Common.{take, flat_map}
use Rattle.i9_lines.specs.declared.print.Printed.TheVariants.{Done}
use Rattle.i9_lines.specs.Print.{Prints, account, line_text}
use Rattle.i9_lines.proofs.print.print_each.Given as goal

abbrev pub invariant-loop-line : goal.invariant-loop-line
invariant-loop-line g l = Prints Done (account g.K.Sink.told g.K.Sink.faults g.K.Sink.writes g.K.Sink.sure g.K.Sink.pieces) l.fn.out l.out (flat_map line_text (take l.line-index l.lines))
