use Rattle.std.proofs.Common.{◌≡◌, ℕ, ◌≤◌, vec_len}
use Rattle.i9_memory.specs.Table.{list_at}
use Rattle.i9_memory.proofs.table.grow_lists.Given as goal

abbrev pub invariant-more : goal.invariant-more
invariant-more g l = record {
  same : (k : ℕ) → list_at l.lists.items k ≡ list_at l.fn.lists.items k;
  len : l.counter ≤ vec_len l.lists;
}
