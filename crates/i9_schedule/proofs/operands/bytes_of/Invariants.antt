use Rattle.std.proofs.Common.{◌≡◌, take}
use Rattle.i9_schedule.proofs.operands.bytes_of.Given as goal

abbrev pub invariant-loop-byte : goal.invariant-loop-byte
invariant-loop-byte g l = l.list.items ≡ take l.byte-index l.byte-items
