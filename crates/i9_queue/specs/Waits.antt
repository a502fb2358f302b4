-- Waiting stores and the room for them.
use Rattle.std.specs.Prelude.{◌≡◌, ℕ, ◌+◌, ◌<◌, List, [], ◌∷◌, None}
use Rattle.std.specs.List.{AllByRecursion, AllByRecursion-prop}
use Rattle.std.proofs.Props.{props}
use Rattle.i9_model.specs.Writes.{wrapped, last_put}
use Rattle.i9_model.specs.Memory as model
use Rattle.i9_model.specs.Memory.{stored}
use Rattle.i9_model.specs.Late.{Wait, all_puts, AreDueInOrder}
use Rattle.i9_memory.specs.declared.memory.Memory.{Memory}
use Rattle.i9_memory.specs.Memory.{IsReserved}

-- each place can be written
abbrev pub HasRoomFor : Memory → List (ℕ × ℕ) → Type 0
HasRoomFor m ps = AllByRecursion (λ p. IsReserved m p.0) ps

IsReserved-prop : (m : Memory) (a : ℕ) → IsProp (IsReserved m a)
unfolding IsReserved
IsReserved-prop m a = hlevel props

pub HasRoomFor-prop : (m : Memory) (ps : List (ℕ × ℕ)) → IsProp (HasRoomFor m ps)
HasRoomFor-prop m ps = hlevel (props, IsReserved-prop, AllByRecursion-prop)

pub AreDueInOrder-prop : (ws : List Wait) → IsProp (AreDueInOrder ws)
AreDueInOrder-prop [] = hlevel props
AreDueInOrder-prop (w ∷ ws) = hlevel (props, AllByRecursion-prop, AreDueInOrder-prop ws)

-- none of these writes is at one of n places from an address on
abbrev pub AreBeside : List (ℕ × ℕ) → ℕ → ℕ → Type 0
AreBeside ps a n = (k : ℕ) → k < n → last_put ps (wrapped (a + k)) ≡ None

abbrev pub with_puts : model.Memory → List (ℕ × ℕ) → model.Memory
with_puts m ps = record m { bytes = stored m.bytes ps }

-- memory after all that waits
abbrev pub settled_over : model.Memory → List Wait → model.Memory
settled_over m ws = with_puts m (all_puts ws)
