use Rattle.std.proofs.Common.{arith}
use Rattle.i9_hex.proofs.PartLemmas.{pairs_at-more}
use Rattle.i9_hex.proofs.reader.Place.put_all.Goals as goal

pub loop-index-preserved : goal.loop-index-preserved
loop-index-preserved c = grind (arith, pairs_at-more)
