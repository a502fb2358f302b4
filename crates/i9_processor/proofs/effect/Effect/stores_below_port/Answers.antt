use Rattle.std.proofs.Common.{arith}
use Rattle.i9_processor.proofs.Appending.{run_below, none_below, empty_run}
use Rattle.i9_processor.proofs.effect.Effect.stores_below_port.Goals as goal

pub returns-then-has_no_run : goal.returns-then-has_no_run
returns-then-has_no_run c empty = grind (arith, none_below, empty_run)

pub returns-else-has_no_run : goal.returns-else-has_no_run
returns-else-has_no_run c low = grind (arith, run_below)
