use Rattle.std.proofs.Common.{length, ap, sym, ◌∙◌}
use Rattle.i9_queue.proofs.Bytes.{length-waits}
use Rattle.i9_queue.proofs.queue.Queue.len.Goals as goal

pub returns : goal.returns
returns c = c.len.ensures.value ∙ sym (length-waits c.self.inside.items.items) ∙ ap length c.self.view_is
