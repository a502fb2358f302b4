-- A request behind those that wait.
use Rattle.std.proofs.Common.{◌≡◌, ℕ, suc, ◌+◌, ◌≤◌, List, [], ◌∷◌, ◌++◌, length, sym, ap, subst, ◌∙◌, arith, append_assoc}
use Rattle.std.specs.List.{AllByRecursion}
use Rattle.std.proofs.lemmas.List.{append-nil}
use Rattle.i9_model.specs.Writes.{upwards, wrapped}
use Rattle.i9_model.specs.Memory.{Memory, stored, with_bytes}
use Rattle.i9_model.specs.Late.{Wait, all_puts, AreDueInOrder}
use Rattle.i9_model.proofs.Stored.{stored-append}
use Rattle.i9_model.proofs.Queues.{order-append}
use Rattle.i9_memory.specs.declared.memory.Memory.{Memory as Kept}
use Rattle.i9_memory.specs.Memory.{IsReserved, HasRoom}
use Rattle.i9_queue.specs.declared.queue.Request.{Request}
use Rattle.i9_queue.specs.Queue.{wait_in}
use Rattle.i9_queue.specs.Waits.{HasRoomFor, settled_over}

puts-push : (ws : List Wait) (w : Wait) → all_puts (ws ++ w ∷ []) ≡ all_puts ws ++ w.puts
puts-push [] w = append-nil w.puts
puts-push (v ∷ ws) w = ap (λ (ps : List (ℕ × ℕ)). v.puts ++ ps) (puts-push ws w) ∙ sym (append_assoc v.puts (all_puts ws) w.puts)

room_join : (m : Kept) (ps qs : List (ℕ × ℕ)) → HasRoomFor m ps → HasRoomFor m qs → HasRoomFor m (ps ++ qs)
room_join m [] qs h g = g
room_join m (p ∷ ps) qs h g = (h.0, room_join m ps qs h.1 g)

room_of_run : (m : Kept) (a : ℕ) (bs : List ℕ) → HasRoom m a (length bs) → HasRoomFor m (upwards a bs)
room_of_run m a [] h = tt
room_of_run m a (b ∷ bs) h =
    let here : wrapped (a + 0) ≡ wrapped a = omega arith in
    let next : (k : ℕ) → wrapped (a + suc k) ≡ wrapped (a + 1 + k) = λ k. omega arith in (
      subst (IsReserved m) here (h 0 (omega arith)),
      room_of_run m (a + 1) bs (λ k lt. subst (IsReserved m) (next k) (h (suc k) (omega (arith, lt)))),
    )

pub room_put : (m : Kept) (ws : List Wait) (r : Request) → HasRoomFor m (all_puts ws) → HasRoom m r.address (length r.bytes.items) → HasRoomFor m (all_puts (ws ++ wait_in r ∷ []))
room_put m ws r h g =
    subst (HasRoomFor m) (sym (puts-push ws (wait_in r))) (room_join m (all_puts ws) (wait_in r).puts h (room_of_run m r.address r.bytes.items g))

pub order_put : (ws : List Wait) (r : Request) → AreDueInOrder ws → AllByRecursion (λ w. w.due ≤ r.due) ws → AreDueInOrder (ws ++ wait_in r ∷ [])
order_put ws r h g = order-append ws (wait_in r) h g

pub settled_put : (m : Memory) (ws : List Wait) (r : Request) → settled_over m (ws ++ wait_in r ∷ []) ≡ with_bytes (settled_over m ws) r.address r.bytes.items
settled_put m ws r =
    ap (λ (ps : List (ℕ × ℕ)). record m { bytes = stored m.bytes ps }) (puts-push ws (wait_in r))
    ∙ ap (λ (g : ℕ → ℕ). record m { bytes = g }) (stored-append m.bytes (all_puts ws) (wait_in r).puts)

pub ruleset wait_rules = (settled_put)
