use Rattle.std.proofs.Common.{sym, subst}
use Rattle.i9_back.specs.Trail.{IsKept}
use Rattle.i9_back.proofs.Trails.{kept_at}
use Rattle.i9_back.proofs.trail.nearest_of.Goals as goal
use Rattle.i9_back.proofs.trail.nearest_of.Goals.{then-k-c+then-is_none_or, else-k-c}

pub loop-k-preserved : goal.loop-k-preserved
loop-k-preserved c = λ g all. elim c.if-k-c.branch [
  | then-k-c+then-is_none_or w ↦
      rw w.best-is (subst (IsKept g) (sym c.k-item.is) (kept_at g c.args.kept.now c.loop-k.k-index c.k-item.result c.loop-k-test.true all), w.if-k-c.true)
  | else-k-c w ↦ rw w.best-is (c.loop-k.invariant g all)
]
