use Rattle.std.proofs.Common.{◌≡◌, ◌++◌}
use Rattle.std.specs.List.{flat_map, range_with_len}
use Rattle.i9_model.specs.PrintedText.{spaced_register}
use Rattle.i9_lines.proofs.text.add_sixteen.Given as goal

abbrev pub invariant-loop-k : goal.invariant-loop-k
invariant-loop-k l = l.text.items ≡ l.fn.text.items ++ flat_map (spaced_register l.view) (range_with_len l.first l.k)
