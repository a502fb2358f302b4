use Rattle.std.proofs.Common.{ap}
use Rattle.i9_lines.specs.declared.print.Printed.TheVariants.{Done, Write, Memory}
use Rattle.i9_lines.specs.Print.{line_text}
use Rattle.i9_lines.proofs.Prints.{prints_same, prints_stop_at, prints_next}
use Rattle.i9_lines.proofs.ClosedLines.{closed_each}
use Rattle.i9_lines.proofs.print.print_each.Goals as goal

pub returns-in-Write : goal.returns-in-Write
returns-in-Write g c =
    prints_stop_at _ line_text Write _ _ _ _ _ _ (closed_each _) (λ e. cc) c.loop-line-test.true c.loop-line.invariant
    (prints_same _ _ _ _ _ _ (ap line_text c.line-item.is) c.in-Write.ensures)

pub returns-in-Memory : goal.returns-in-Memory
returns-in-Memory g c =
    prints_stop_at _ line_text Memory _ _ _ _ _ _ (closed_each _) (λ e. cc) c.loop-line-test.true c.loop-line.invariant
    (prints_same _ _ _ _ _ _ (ap line_text c.line-item.is) c.in-Memory.ensures)

pub loop-line-preserved : goal.loop-line-preserved
loop-line-preserved g c =
    prints_next _ line_text Done _ _ _ _ _ _ (closed_each _) c.loop-line-test.true c.loop-line.invariant
    (prints_same _ _ _ _ _ _ (ap line_text c.line-item.is) c.in-Done.ensures)
