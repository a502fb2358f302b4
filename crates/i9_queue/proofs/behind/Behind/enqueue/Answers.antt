use Rattle.std.proofs.Common.{sym, subst, List}
use Rattle.i9_model.specs.Late.{Wait, AreDueInOrder, all_puts}
use Rattle.i9_queue.specs.Waits.{HasRoomFor}
use Rattle.i9_queue.proofs.Enqueued.{room_put, order_put}
use Rattle.i9_queue.proofs.behind.Behind.enqueue.Goals as goal

pub invariant_of-self : goal.invariant_of-self
invariant_of-self c =
    let b = c.args.self.now in
    record {
      room = subst (λ (ws : List Wait). HasRoomFor b.memory (all_puts ws)) (sym c.put.ensures) (room_put b.memory b.queue c.args.request b.room c.requires.room);
      order = subst AreDueInOrder (sym c.put.ensures) (order_put b.queue c.args.request b.order c.requires.order);
    }
