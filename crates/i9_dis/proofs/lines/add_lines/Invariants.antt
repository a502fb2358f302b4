use Rattle.std.proofs.Common.{◌≡◌, ◌+◌, ◌++◌, List, ℕ, length}
use Rattle.std.specs.List.{flat_map}
use Rattle.i9_hex.specs.Writing.{with_line_feed}
use Rattle.i9_asm.specs.Listing.{Lists}
use Rattle.i9_dis.specs.Printed.{AddsLines}
use Rattle.i9_dis.proofs.lines.add_lines.Given as goal

abbrev pub invariant-loop-rest : goal.invariant-loop-rest
invariant-loop-rest l = record {
  place : l.place + length l.rest ≡ l.start + length l.bytes;
  lines : (tail : List (List ℕ)) → Lists l.place l.rest tail → AddsLines l.start l.bytes l.fn.text.items (l.text.items ++ flat_map with_line_feed tail);
}

abbrev pub decreases-loop-rest : goal.decreases-loop-rest
decreases-loop-rest l = length l.rest
