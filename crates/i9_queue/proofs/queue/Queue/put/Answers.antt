use Rattle.std.proofs.Common.{◌++◌, ◌∷◌, [], length, ap, ◌∙◌, arith}
use Rattle.i9_queue.specs.Queue.{waits_in, wait_in}
use Rattle.i9_queue.proofs.Bytes.{length-waits, waits-put}
use Rattle.i9_queue.proofs.queue.Queue.put.Goals as goal

pub push-requires : goal.push-requires
push-requires c = omega (arith, length-waits c.self.inside.items.items, ap length c.self.view_is)

pub returns : goal.returns
returns c = ap waits_in c.push.ensures.items ∙ waits-put c.self.inside.items.items c.args.r ∙ ap (λ ws. ws ++ wait_in c.args.r ∷ []) c.self.view_is
