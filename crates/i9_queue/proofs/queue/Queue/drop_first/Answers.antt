use Rattle.std.proofs.Common.{drop, ap, sym, ◌∙◌}
use Rattle.i9_queue.specs.Queue.{waits_in}
use Rattle.i9_queue.proofs.Bytes.{one_waits}
use Rattle.i9_queue.proofs.queue.Queue.drop_first.Goals as goal

pub returns-then-len-eq1 : goal.returns-then-len-eq1
returns-then-len-eq1 c =
    let items = c.self.inside.items.items in
    ap waits_in c.clear.ensures
    ∙ one_waits items (sym c.len.ensures.value ∙ c.if-len-eq1.true)
    ∙ ap (λ ws. drop 1 ws) c.self.view_is
