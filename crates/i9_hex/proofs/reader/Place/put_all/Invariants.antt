use Rattle.std.proofs.Common.{◌≡◌, ◌++◌, take}
use Rattle.i9_model.specs.Image.{pairs_at, pairs_of}
use Rattle.i9_model.specs.HexText.{address_in}
use Rattle.i9_hex.specs.Reading.{origin_of}
use Rattle.i9_hex.proofs.reader.Place.put_all.Given as goal

abbrev pub invariant-loop-index : goal.invariant-loop-index
invariant-loop-index l = pairs_of l.segments ≡ pairs_of l.fn.segments ++ pairs_at (address_in (origin_of l.self)) l.address (take l.index l.bytes)
