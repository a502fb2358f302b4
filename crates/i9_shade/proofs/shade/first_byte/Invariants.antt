use Rattle.std.proofs.Common.{◌≡◌, drop, map}
use Rattle.i9_shade.specs.Shade.{piece_in, first_byte}
use Rattle.i9_shade.proofs.shade.first_byte.Given as goal

abbrev pub invariant-loop-p : goal.invariant-loop-p
invariant-loop-p l = first_byte (map piece_in (drop l.p-index l.pieces)) l.a ≡ first_byte (map piece_in l.pieces) l.a
