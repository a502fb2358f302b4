use Rattle.std.proofs.Common.{◌≡◌, take}
use Rattle.std.specs.List.{list_all}
use Rattle.i9_asm.specs.Places.{is_ascii}
use Rattle.i9_asm.proofs.places.is_ascii.Given as goal

abbrev pub invariant-loop-byte : goal.invariant-loop-byte
invariant-loop-byte l = l.ascii ≡ list_all is_ascii (take l.byte-index l.line)
