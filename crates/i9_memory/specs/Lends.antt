-- Lends: what a table ends as, where a `&mut` to one of its pages is returned.
use Rattle.std.specs.Prelude.{ℕ, Option, Some, OnSome}
use Rattle.std.specs.Borrow.{LendsSo, Fml, RattleType, MutBor}
use Rattle.i9_memory.specs.declared.table.PageTable.{PageTable}
use Rattle.i9_memory.specs.contracts.table.PageTable.{the_row}
use Rattle.i9_memory.specs.Table.{SamePages, Updates}

-- once the borrow r ends, the number has the last value written through r, and at `None` all is as it was
abbrev pub lends_page : (T : RattleType) → MutBor (PageTable T.Denot) → ℕ → Option (MutBor T.Denot) → Fml
lends_page T s number r = LendsSo (the_row T) T s r (λ new page. OnSome r (Updates s.now number (Some page) new))
    (SamePages s.now)
