use Rattle.i9_turns.proofs.TurnLeast.{timed-least, timed-solves}
use Rattle.i9_turns.proofs.turn_laws.turns_are_least.Goals as goal

pub returns-clause-solve : goal.returns-clause-solve
returns-clause-solve c = timed-solves

pub returns-clause-least : goal.returns-clause-least
returns-clause-least c = timed-least
