use Rattle.i9_watch.proofs.SetBits.{more_bits}
use Rattle.i9_watch.proofs.bits.bits_where.Goals as goal

pub loop-k-preserved : goal.loop-k-preserved
loop-k-preserved g c = λ p same j. more_bits c.loop-k.k p c.loop-k.bits c.with_bit-bits.result c.test.result (same c.loop-k.k c.test.result c.test.ensures) (c.loop-k.invariant p same) c.with_bit-bits.ensures j
