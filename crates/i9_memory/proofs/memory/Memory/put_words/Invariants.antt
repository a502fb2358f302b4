use Rattle.std.proofs.Common.{◌≡◌, ◌+◌, ◌*◌, drop}
use Rattle.i9_model.specs.Writes.{wrapped}
use Rattle.i9_model.specs.Memory.{with_words}
use Rattle.i9_memory.specs.Memory.{memory_of, KeepsRoom}
use Rattle.i9_memory.proofs.memory.Memory.put_words.Given as goal

abbrev pub invariant-loop-w : goal.invariant-loop-w
invariant-loop-w l = record {
  at : l.at ≡ wrapped (l.fn.a + 4 * l.w-index);
  rest : with_words (memory_of l.self) l.at (drop l.w-index l.words) ≡ with_words (memory_of l.fn.self) l.fn.a l.words;
  keeps : KeepsRoom l.fn.self l.self;
  no_more : KeepsRoom l.self l.fn.self;
}
