use Rattle.i9_system.proofs.Writing.{takes_piece}
use Rattle.i9_system.proofs.real.RealSinkSink.write.Goals as goal

pub returns-then-eq-clause-piece : goal.returns-then-eq-clause-piece
returns-then-eq-clause-piece g c = takes_piece (λ s. g.W.Write.contents s.out) _ _ _ _ c.write_all-answer.ensures.bytes

pub returns-else-eq-clause-piece : goal.returns-else-eq-clause-piece
returns-else-eq-clause-piece g c = takes_piece (λ s. g.W.Write.contents s.out) _ _ _ _ c.write_all-answer.ensures.bytes
