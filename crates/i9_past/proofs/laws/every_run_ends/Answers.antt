use Rattle.std.proofs.Common.{arith}
use Rattle.i9_past.proofs.Lines.{text_goes_on}
use Rattle.i9_past.proofs.Ends.{run_goes_on, count_within}
use Rattle.i9_past.proofs.laws.every_run_ends.Goals as goal

pub returns : goal.returns
returns c = grind (arith, run_goes_on, count_within, text_goes_on)
