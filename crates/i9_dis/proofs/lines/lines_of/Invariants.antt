use Rattle.std.proofs.Common.{[], map, take}
use Rattle.i9_hex.specs.Shown.{part_of}
use Rattle.i9_dis.specs.Printed.{AddsRuns}
use Rattle.i9_dis.proofs.lines.lines_of.Given as goal

abbrev pub invariant-loop-run : goal.invariant-loop-run
invariant-loop-run l = AddsRuns (map part_of (take l.run-index l.runs)) [] l.text.items
