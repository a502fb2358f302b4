use Rattle.std.proofs.Common.{ℕ, List, ◌≡◌, ◌∷◌, ◌++◌, length, drop, sym, ap, subst, ◌∙◌}
use Rattle.i9_model.specs.Memory.{Memory, with_bytes}
use Rattle.i9_model.specs.Late.{due_puts, left_waiting, all_puts, AreDueInOrder}
use Rattle.i9_model.proofs.Stored.{stored-append, stored-none}
use Rattle.i9_model.proofs.Queues.{take-due}
use Rattle.i9_memory.specs.Memory.{memory_of, HasRoom}
use Rattle.i9_queue.specs.Queue.{wait_in}
use Rattle.i9_queue.specs.Waits.{HasRoomFor, with_puts}
use Rattle.i9_queue.proofs.Settled.{room_split, room_kept, room_run, no_more}
use Rattle.i9_queue.proofs.behind.land_all.Goals as goal

pub store-requires : goal.store-requires
store-requires c =
    let r = c.in-Some.r.now in
    let w = wait_in r in
    let ws = drop 1 c.loop-r.queue in
    let room : HasRoomFor c.loop-r.memory (w.puts ++ all_puts ws) = subst (λ ws. HasRoomFor c.loop-r.memory (all_puts ws)) c.in-Some.ensures.1 c.loop-r.invariant.room in
    subst (λ (bs : List ℕ). HasRoom c.loop-r.memory r.address (length bs)) (sym c.as_slice.ensures.value) (room_run c.loop-r.memory r.address r.bytes.items (room_split c.loop-r.memory w.puts (all_puts ws) room).0)

pub loop-r-preserved : goal.loop-r-preserved
loop-r-preserved c =
    let u = c.args.turn in
    let r = c.in-Some.r.now in
    let w = wait_in r in
    let ws = c.drop_first.new.self in
    let m = memory_of c.loop-r.memory in
    let t = take-due u w ws c.in-Some.ensures.0 in
    let q : c.loop-r.queue ≡ w ∷ ws = c.in-Some.ensures.1 ∙ ap (λ vs. w ∷ vs) (sym c.drop_first.ensures) in
    let room : HasRoomFor c.loop-r.memory (w.puts ++ all_puts ws) = subst (λ vs. HasRoomFor c.loop-r.memory (all_puts vs)) q c.loop-r.invariant.room in
    let order : AreDueInOrder (w ∷ ws) = subst AreDueInOrder q c.loop-r.invariant.order in
    record {
      memory =
          ap (λ (n : Memory). with_puts n (due_puts u ws)) (c.store.ensures.bytes ∙ ap (λ bs. with_bytes m r.address bs) c.as_slice.ensures.value)
          ∙ ap (λ (g : ℕ → ℕ). record m { bytes = g }) (sym (stored-append m.bytes w.puts (due_puts u ws)))
          ∙ ap (with_puts m) (sym t.0 ∙ sym (ap (due_puts u) q))
          ∙ c.loop-r.invariant.memory;
      requests = sym t.1 ∙ sym (ap (left_waiting u) q) ∙ c.loop-r.invariant.requests;
      order = order.1;
      room = room_kept c.loop-r.memory c.store.new.self (all_puts ws) c.store.ensures.keeps (room_split c.loop-r.memory w.puts (all_puts ws) room).1;
      keeps = λ a h. c.store.ensures.keeps a (c.loop-r.invariant.keeps a h);
      no_more = λ a h. c.loop-r.invariant.no_more a (c.store.ensures.no_more a h);
    }

pub returns-clause-memory : goal.returns-clause-memory
returns-clause-memory c =
    let m = memory_of c.loop-r.memory in
    let n = no_more c.args.turn c.loop-r.queue c.in_default.ensures c.loop-r.invariant.order in
    ap (λ (g : ℕ → ℕ). record m { bytes = g }) (sym (stored-none m.bytes)) ∙ ap (with_puts m) (sym n.0) ∙ c.loop-r.invariant.memory

pub returns-clause-queue : goal.returns-clause-queue
returns-clause-queue c =
    let n = no_more c.args.turn c.loop-r.queue c.in_default.ensures c.loop-r.invariant.order in
    sym n.1 ∙ c.loop-r.invariant.requests
