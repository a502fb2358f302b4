use Rattle.std.proofs.Common.{◌≡◌, ◌*◌, length, take}
use Rattle.i9_model.specs.Step.{bytes_of_words}
use Rattle.i9_processor.specs.State.{state_of}
use Rattle.i9_plan.proofs.transfers.bytes_of_words.Given as goal

abbrev pub invariant-loop-k : goal.invariant-loop-k
invariant-loop-k l = record {
  bytes : l.bytes.items ≡ bytes_of_words (state_of l.p).memory l.a (take l.k l.words);
  count : length l.bytes.items ≡ 4 * l.k;
}
