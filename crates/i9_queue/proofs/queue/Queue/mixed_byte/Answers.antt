use Rattle.std.proofs.Common.{◌∙◌, sym}
use Rattle.i9_model.specs.Late.{all_puts}
use Rattle.i9_memory.specs.Memory.{memory_of}
use Rattle.i9_queue.proofs.Settled.{at_port, at_some, at_none}
use Rattle.i9_queue.proofs.queue.Queue.mixed_byte.Goals as goal

pub returns-then-in_port_page : goal.returns-then-in_port_page
returns-then-in_port_page c =
    c.byte.ensures ∙ at_port (memory_of c.args.m.now).bytes (all_puts c.args.self.now) c.args.a (sym c.in_port_page.ensures ∙ c.if-in_port_page.true)

pub returns-in-Some : goal.returns-in-Some
returns-in-Some c =
    at_some (memory_of c.args.m.now).bytes (all_puts c.args.self.now) c.args.a c.in-Some.b (sym c.in_port_page.ensures ∙ c.if-in_port_page.false) (sym c.in-Some.is ∙ c.forward.ensures)

pub returns-in-None : goal.returns-in-None
returns-in-None c =
    c.byte-in-None.ensures ∙ at_none (memory_of c.args.m.now).bytes (all_puts c.args.self.now) c.args.a (sym c.in_port_page.ensures ∙ c.if-in_port_page.false) (sym c.in-None.is ∙ c.forward.ensures)
