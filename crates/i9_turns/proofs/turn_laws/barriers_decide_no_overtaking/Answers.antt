use Rattle.i9_turns.proofs.TurnAlike.{alike-overtakes}
use Rattle.i9_turns.proofs.turn_laws.barriers_decide_no_overtaking.Goals as goal

pub returns : goal.returns
returns c = alike-overtakes
