use Rattle.std.proofs.Common.{ℕ, ◌+◌, ◌*◌, sym, ap, ◌∙◌, zero-add, arith}
use Rattle.std.proofs.lemmas.List.{get_or_past}
use Rattle.std.proofs.lemmas.List.FromFn.{get_or-map-range_with_len, length-map-range_with_len}
use Rattle.i9_model.specs.Memory.{word_in, words_in}
use Rattle.i9_model.specs.Writes.{wrapped}
use Rattle.i9_memory.specs.Memory.{memory_of}
use Rattle.i9_queue.specs.Waits.{settled_over}
use Rattle.i9_queue.proofs.queue.Queue.group_word.Goals as goal

pub returns-then-k-n : goal.returns-then-k-n
returns-then-k-n c =
    let m = settled_over (memory_of c.args.m.now) c.args.self.now in
    let word_at : ℕ → ℕ = λ j. word_in m (wrapped (c.args.a + 4 * j)) in
    c.word.ensures
    ∙ ap word_at c.from.ensures
    ∙ sym (get_or-map-range_with_len word_at 0 c.args.n c.args.k c.args.k 0 c.if-k-n.true (zero-add c.args.k))

pub returns-else-k-n : goal.returns-else-k-n
returns-else-k-n c =
    let m = settled_over (memory_of c.args.m.now) c.args.self.now in
    let word_at : ℕ → ℕ = λ j. word_in m (wrapped (c.args.a + 4 * j)) in
    let long = length-map-range_with_len word_at 0 c.args.n in
    sym (get_or_past (words_in m c.args.a c.args.n) c.args.k 0 (omega (arith, long)))
