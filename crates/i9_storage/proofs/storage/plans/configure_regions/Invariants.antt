use Rattle.std.proofs.Common.{◌≡◌, ◌+◌, drop}
use Rattle.i9_model.specs.Boot.{with_regions}
use Rattle.i9_queue.specs.Behind.{settled}
use Rattle.i9_storage.specs.Kept.{KeepsBehind}
use Rattle.i9_storage.proofs.storage.plans.configure_regions.Given as goal

abbrev pub invariant-loop-k : goal.invariant-loop-k
invariant-loop-k l = record {
  rest : with_regions (settled l.behind) (l.region + l.k) (drop l.k l.words) ≡ with_regions (settled l.fn.behind) l.region l.words;
  keeps : KeepsBehind l.fn.behind l.behind;
}
