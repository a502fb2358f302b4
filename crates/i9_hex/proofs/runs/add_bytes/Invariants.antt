use Rattle.std.proofs.Common.{◌≡◌, ◌+◌, ◌++◌, take}
use Rattle.i9_model.specs.Image.{wrapped, upwards}
use Rattle.i9_hex.proofs.runs.add_bytes.Given as goal

abbrev pub invariant-loop-byte : goal.invariant-loop-byte
invariant-loop-byte l = record {
  address : l.address ≡ wrapped (l.start + l.byte-index);
  pairs : l.pairs.items ≡ l.fn.pairs.items ++ upwards l.start (take l.byte-index l.bytes);
}
