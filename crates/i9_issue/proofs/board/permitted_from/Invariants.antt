use Rattle.std.proofs.Common.{◌≡◌, ◌<◌, ◌≤◌, ◌^◌, ◌-◌, take, reverse}
use Rattle.std.specs.List.{AllByRecursion}
use Rattle.i9_model.specs.Turns.{turn_from}
use Rattle.i9_issue.proofs.board.permitted_from.Given as goal

abbrev pub invariant-loop-k : goal.invariant-loop-k
invariant-loop-k l = record {
  rest : turn_from l.n l.turn l.requests (reverse (take (l.count - l.k) l.records)) ≡ turn_from l.n l.from 0 (reverse (take l.count l.records));
  few : l.requests ≤ l.k;
  early : AllByRecursion (λ r. r.issue < 2 ^ 62) (reverse (take (l.count - l.k) l.records));
}
