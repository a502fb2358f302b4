use Rattle.std.proofs.Common.{◌≡◌, ◌-◌, ◌^◌, ◌<◌, ◌≤◌, length, drop}
use Rattle.i9_statement.specs.Known.{word_of}
use Rattle.i9_statement.proofs.known.word_of.Given as goal

abbrev pub invariant-loop-left : goal.invariant-loop-left
invariant-loop-left l = record {
  value : l.word ≡ word_of (drop l.left l.bytes);
  small : l.word < 256 ^ (length l.bytes - l.left);
  inside : l.left ≤ length l.bytes;
}

abbrev pub decreases-loop-left : goal.decreases-loop-left
decreases-loop-left l = l.left
