use Rattle.std.proofs.Common.{◌∙◌, arith}
use Rattle.i9_model.specs.Late.{all_puts}
use Rattle.i9_memory.specs.Memory.{memory_of}
use Rattle.i9_queue.specs.Behind.{settled}
use Rattle.i9_queue.proofs.Beside.{words_beside}
use Rattle.i9_queue.proofs.behind.Behind.words.Goals as goal

pub returns-then-is_beside : goal.returns-then-is_beside
unfolding settled
returns-then-is_beside g c =
    let b = c.args.self.now in
    c.words.ensures ∙ words_beside (memory_of b.memory) (all_puts b.queue) c.args.a g.row.N (λ k h. c.is_beside.ensures c.if-is_beside.true k (omega (arith, h, c.requires)))
