use Rattle.std.proofs.Common.{◌∙◌, arith}
use Rattle.i9_model.specs.Late.{all_puts}
use Rattle.i9_memory.specs.Memory.{memory_of}
use Rattle.i9_queue.proofs.Beside.{half_beside}
use Rattle.i9_queue.proofs.queue.Queue.half.Goals as goal

pub returns-then-is_beside : goal.returns-then-is_beside
returns-then-is_beside c =
    c.half.ensures ∙ half_beside (memory_of c.args.m.now) (all_puts c.args.self.now) c.args.a (omega arith) (c.is_beside.ensures c.if-is_beside.true)
