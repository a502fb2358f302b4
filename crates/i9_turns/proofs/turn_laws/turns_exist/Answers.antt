use Rattle.i9_turns.proofs.TurnWhole.{IsTimed-timed, needs-timed, timed-unique}
use Rattle.i9_turns.proofs.turn_laws.turns_exist.Goals as goal

pub returns : goal.returns
returns c = record {
  exist = IsTimed-timed;
  needs = needs-timed;
  unique = timed-unique;
}
