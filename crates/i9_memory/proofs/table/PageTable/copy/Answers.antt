use Rattle.i9_memory.specs.Table.{page_at}
use Rattle.i9_memory.proofs.Copies.{pages_copied}
use Rattle.i9_memory.proofs.table.PageTable.copy.Goals as goal

pub returns-in-Ok : goal.returns-in-Ok
unfolding page_at
returns-in-Ok g c =
    pages_copied _ c.args.self.now.levels.items c.in-Ok.levels.items c.in-Ok.ensures.cases.0 tt g.T.Clone.is_clone
    (λ y h. h) (λ x h. h) (λ x y h. h)
