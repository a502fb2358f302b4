-- Memory behind which nothing waits.
use Rattle.std.proofs.Common.{◌≡◌, ℕ, List, [], refl, sym, ap, ◌∙◌}
use Rattle.i9_model.specs.Memory.{Memory, with_bytes, with_words, words_in}
use Rattle.i9_model.specs.Late.{Wait}
use Rattle.i9_model.proofs.Stored.{stored-none}
use Rattle.i9_memory.specs.declared.memory.Memory.{Memory as Kept}
use Rattle.i9_memory.specs.Memory.{memory_of}
use Rattle.i9_queue.specs.Waits.{settled_over}
use Rattle.i9_queue.specs.declared.behind.Behind.{Behind}
use Rattle.i9_queue.specs.Behind.{settled, waiting_of}
use Rattle.i9_queue.specs.Lending.{drained}

-- it is the same after all that waits
pub none_waits : (m : Memory) (ws : List Wait) → ws ≡ [] → settled_over m ws ≡ m
none_waits m ws none = ap (settled_over m) none ∙ ap (λ (g : ℕ → ℕ). record m { bytes = g }) (stored-none m.bytes)

pub none_words : (m : Memory) (ws : List Wait) (a n : ℕ) → ws ≡ [] → words_in m a n ≡ words_in (settled_over m ws) a n
none_words m ws a n none = sym (ap (λ (k : Memory). words_in k a n) (none_waits m ws none))

-- what is done to memory is done to memory after all that waits
pub bytes_settle : (m k : Memory) (ws : List Wait) (a : ℕ) (bs : List ℕ) → ws ≡ [] → k ≡ with_bytes m a bs
    → settled_over k ws ≡ with_bytes (settled_over m ws) a bs
bytes_settle m k ws a bs none is =
    none_waits k ws none ∙ is ∙ sym (ap (λ (n : Memory). with_bytes n a bs) (none_waits m ws none))

pub words_settle : (m k : Memory) (ws : List Wait) (a : ℕ) (vs : List ℕ) → ws ≡ [] → k ≡ with_words m a vs
    → settled_over k ws ≡ with_words (settled_over m ws) a vs
words_settle m k ws a vs none is =
    none_waits k ws none ∙ is ∙ sym (ap (λ (n : Memory). with_words n a vs) (none_waits m ws none))

-- a memory behind which nothing waits
pub lent_settles : (m : Kept) → settled (drained m) ≡ memory_of m
unfolding settled
lent_settles m = none_waits (memory_of m) [] refl

pub drained_settles : (b : Behind) → waiting_of b ≡ [] → memory_of b.memory ≡ settled b
unfolding settled
drained_settles b none = sym (none_waits (memory_of b.memory) b.queue none)

pub ruleset lent_rules = (lent_settles, drained_settles)

pub ruleset drained_rules = (none_waits, none_words, bytes_settle, words_settle)
