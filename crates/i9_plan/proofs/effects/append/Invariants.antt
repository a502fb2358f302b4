use Rattle.std.proofs.Common.{◌≡◌, ◌+◌, ◌++◌, length, take}
use Rattle.i9_plan.proofs.effects.append.Given as goal

abbrev pub invariant-loop-b : goal.invariant-loop-b
invariant-loop-b l = record {
  bytes : l.bytes.items ≡ l.fn.bytes.items ++ take l.b-index l.more;
  count : length l.bytes.items ≡ length l.fn.bytes.items + l.b-index;
}
