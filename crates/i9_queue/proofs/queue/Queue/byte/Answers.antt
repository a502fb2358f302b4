use Rattle.std.proofs.Common.{◌∙◌, arith}
use Rattle.i9_model.specs.Late.{all_puts}
use Rattle.i9_memory.specs.Memory.{memory_of}
use Rattle.i9_queue.proofs.Beside.{byte_beside}
use Rattle.i9_queue.proofs.queue.Queue.byte.Goals as goal

pub returns-then-is_beside : goal.returns-then-is_beside
returns-then-is_beside c =
    c.byte.ensures ∙ byte_beside (memory_of c.args.m.now).bytes (all_puts c.args.self.now) c.args.a 1 (omega arith) (omega arith) (c.is_beside.ensures c.if-is_beside.true)
