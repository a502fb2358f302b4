use Rattle.i9_course.proofs.Waiting.{stands_where, waited_turn}
use Rattle.i9_course.proofs.laws.events_wait_for_their_turn.Goals as goal

pub returns-clause-stands : goal.returns-clause-stands
returns-clause-stands c = stands_where

pub returns-clause-turn : goal.returns-clause-turn
returns-clause-turn c = waited_turn
