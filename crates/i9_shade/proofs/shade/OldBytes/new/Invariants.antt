use Rattle.std.proofs.Common.{◌≡◌, length, take}
use Rattle.i9_shade.proofs.shade.OldBytes.new.Given as goal

abbrev pub invariant-loop-b : goal.invariant-loop-b
invariant-loop-b l = record {
  bytes : l.bytes.items ≡ take l.b-index l.old;
  count : length l.bytes.items ≡ l.b-index;
}
