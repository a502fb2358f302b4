use Rattle.std.proofs.Common.{ℕ, ◌+◌, ◌*◌, arith}
use Rattle.std.proofs.lemmas.List.FromFn.{fill_by_all}
use Rattle.i9_model.specs.declared.layout.TheConstants.{LOCALS}
use Rattle.i9_model.specs.Writes.{wrapped}
use Rattle.i9_model.specs.Memory.{word_in}
use Rattle.i9_storage.specs.Storage.{memory_in}
use Rattle.i9_storage.proofs.storage.Storage.laid_words.Goals as goal

pub returns : goal.returns
returns c = fill_by_all (λ (k : ℕ). word_in (memory_in c.args.self.now) (wrapped (c.args.a + 4 * k))) c.loop-k.words LOCALS 0 c.loop-k.invariant.length_of (λ k h. c.loop-k.invariant.words_of k (omega arith))
