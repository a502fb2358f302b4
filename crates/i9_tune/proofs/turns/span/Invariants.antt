use Rattle.std.proofs.Common.{◌+◌, ◌*◌, take, reverse}
use Rattle.i9_model.specs.Turns.{StandsFor, IsAllDone}
use Rattle.i9_tune.specs.Greedy.{turns_of}
use Rattle.i9_tune.proofs.turns.span.Given as goal

abbrev pub invariant-loop-inst : goal.invariant-loop-inst
invariant-loop-inst l = record {
  stands : StandsFor l.board (turns_of (reverse (take l.inst-index l.block)));
  early : IsAllDone l.board (1 + 248 * l.inst-index);
}
