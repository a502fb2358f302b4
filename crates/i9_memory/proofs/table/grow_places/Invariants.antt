use Rattle.std.proofs.Common.{◌≡◌, ℕ, ◌≤◌, get_or, None, vec_len}
use Rattle.i9_memory.proofs.table.grow_places.Given as goal

abbrev pub invariant-more : goal.invariant-more
invariant-more g l = record {
  same : (k : ℕ) → get_or l.places.items k None ≡ get_or l.fn.places.items k None;
  len : l.counter ≤ vec_len l.places;
}
