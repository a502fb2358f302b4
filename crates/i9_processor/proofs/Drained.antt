-- Where nothing waits.
use Rattle.std.proofs.Common.{◌≡◌, ℕ, List, [], sym, ap, ◌∙◌}
use Rattle.i9_model.specs.Late.{Wait, all_puts, due_puts, left_waiting}
use Rattle.i9_model.specs.Memory.{stored}
use Rattle.i9_model.specs.Writes.{written}
use Rattle.i9_model.proofs.Stored.{stored-none}
use Rattle.i9_queue.specs.Behind.{settled}
use Rattle.i9_storage.specs.declared.storage.Storage.{Storage}
use Rattle.i9_storage.specs.Storage as stores
use Rattle.i9_processor.specs.declared.processor.Processor.{Processor}
use Rattle.i9_processor.specs.State.{cache_of, bytes_of, queue_of, IsDrained}

-- memory is what it will be
pub drained_acted : (s : Storage) → stores.IsDrained s
    → (stores.acted_in s).bytes ≡ (stores.cache_of s).behind.bytes
unfolding settled written
drained_acted s none = sym (ap (λ (ws : List Wait). stored (stores.acted_in s).bytes (all_puts ws)) none)

pub drained_bytes : (p : Processor) → IsDrained p → bytes_of p ≡ (cache_of p).behind.bytes
unfolding cache_of bytes_of queue_of
drained_bytes p none = drained_acted p.storage none

-- and nothing lands
pub bytes_stay : (b : ℕ → ℕ) (turn : ℕ) (ws : List Wait) → ws ≡ [] → b ≡ stored b (due_puts turn ws)
bytes_stay b turn ws none = sym (ap (λ (vs : List Wait). stored b (due_puts turn vs)) none ∙ stored-none b)

pub queue_stays : (turn : ℕ) (ws : List Wait) → ws ≡ [] → ws ≡ left_waiting turn ws
queue_stays turn ws none = none ∙ sym (ap (left_waiting turn) none)
