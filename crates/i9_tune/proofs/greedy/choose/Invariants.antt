use Rattle.std.proofs.Common.{◌<◌, List, length, take}
use Rattle.i9_isa.specs.declared.inst.Inst.{Inst}
use Rattle.i9_model.specs.Turns.{StandsFor}
use Rattle.i9_tune.specs.Greedy.{turns_of}
use Rattle.i9_tune.specs.Fronts.{IsFront}
use Rattle.i9_tune.proofs.Chosen.{IsBest}
use Rattle.i9_tune.proofs.greedy.choose.Given as goal

abbrev pub invariant-loop-k : goal.invariant-loop-k
invariant-loop-k l = record {
  within : l.best < length l.left;
  front : IsFront (take l.k l.left) l.front;
  best : (taken : List Inst) → StandsFor l.board (turns_of taken) → IsBest taken (take l.k l.left) l.best l.least;
}
