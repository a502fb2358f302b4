use Rattle.std.proofs.Common.{◌≡◌, ◌+◌}
use Rattle.std.specs.List.{flat_map, range_with_len}
use Rattle.i9_generator.specs.Generator.{drawn, event_line}
use Rattle.i9_generator.proofs.generator.schedule_of.Given as goal

abbrev pub invariant-loop-place : goal.invariant-loop-place
invariant-loop-place l =
    (l.last ≡ drawn l.number (3 + l.place)) × (l.text.items ≡ flat_map (event_line l.number) (range_with_len 1 l.place))
