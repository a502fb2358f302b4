use Rattle.std.proofs.Common.{◌≡◌, ◌≤◌, ◌++◌, ◌-◌, drop, take, length}
use Rattle.i9_model.specs.Turns.{open_at}
use Rattle.i9_issue.proofs.board.move_open.Given as goal

abbrev pub invariant-loop-k : goal.invariant-loop-k
invariant-loop-k l = record {
  kept : take l.kept l.records ++ open_at l.turn (take (l.count - l.k) (drop l.k l.initial.records)) ≡ open_at l.turn (take l.count l.initial.records);
  rest : drop l.k l.records ≡ drop l.k l.initial.records;
  few : l.kept ≤ l.k;
  whole : length l.records ≡ length l.initial.records;
}
