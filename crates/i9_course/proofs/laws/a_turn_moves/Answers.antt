use Rattle.i9_course.proofs.Steps.{moves_lands}
use Rattle.i9_course.proofs.laws.a_turn_moves.Goals as goal

pub returns : goal.returns
returns c = moves_lands
