use Rattle.i9_turns.proofs.LateOrder.{shows_moves, shows_request, shows_other, shows_clear}
use Rattle.i9_turns.proofs.late_laws.shown_records_stay_shown.Goals as goal

pub returns : goal.returns
returns c = record {
  moves = shows_moves;
  request = shows_request;
  other = shows_other;
  clear = shows_clear;
}
