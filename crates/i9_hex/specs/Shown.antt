-- What contracts see of segments.
use Rattle.std.specs.Prelude.{List, map}
use Rattle.i9_model.specs.Image.{Part}
use Rattle.i9_hex.specs.declared.segments.Segment.{Segment}
use Rattle.i9_hex.specs.declared.segments.Segments.TheInside.{Inside}

abbrev pub part_of : Segment → Part
part_of s = record { address = s.address; bytes = s.bytes.items }

abbrev pub parts_of : Inside → List Part
parts_of s = map part_of s.items.items
