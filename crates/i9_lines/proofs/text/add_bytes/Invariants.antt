use Rattle.std.proofs.Common.{◌≡◌, ◌++◌, take}
use Rattle.std.specs.List.{flat_map}
use Rattle.i9_model.specs.PrintedText.{spaced_byte}
use Rattle.i9_lines.proofs.text.add_bytes.Given as goal

abbrev pub invariant-loop-byte : goal.invariant-loop-byte
invariant-loop-byte l = l.text.items ≡ l.fn.text.items ++ flat_map spaced_byte (take l.byte-index l.list)
