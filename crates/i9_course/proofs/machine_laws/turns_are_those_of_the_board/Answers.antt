use Rattle.i9_course.proofs.Placing.{next_turn, placed_turns}
use Rattle.i9_course.proofs.machine_laws.turns_are_those_of_the_board.Goals as goal

pub returns-clause-next : goal.returns-clause-next
returns-clause-next c = next_turn

pub returns-clause-placed : goal.returns-clause-placed
returns-clause-placed c = placed_turns
