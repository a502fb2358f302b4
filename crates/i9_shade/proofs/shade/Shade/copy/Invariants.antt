use Rattle.std.proofs.Common.{◌≡◌, ◌≤◌, take, map}
use Rattle.arrayvec.specs.ArrayVec.{array_vec_len}
use Rattle.i9_shade.specs.Shade.{piece_in}
use Rattle.i9_shade.proofs.shade.Shade.copy.Given as goal

abbrev pub invariant-loop-old : goal.invariant-loop-old
invariant-loop-old l = record {
  pieces : map piece_in l.pieces.items ≡ map piece_in (take l.old-index l.self-inside.pieces.items);
  len : array_vec_len l.pieces ≤ l.old-index;
}
