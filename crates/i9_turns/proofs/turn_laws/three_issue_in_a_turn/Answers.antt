use Rattle.i9_turns.proofs.TurnThree.{at_most_three}
use Rattle.i9_turns.proofs.turn_laws.three_issue_in_a_turn.Goals as goal

pub returns : goal.returns
returns c = at_most_three
