use Rattle.std.proofs.Common.{◌∷◌}
use Rattle.i9_turns.proofs.TurnOpen.{follows-open, open-follows, pending-next, all_done-open, open-all_done, timed-take_time}
use Rattle.i9_turns.proofs.turn_laws.open_records_decide.Goals as goal

pub returns : goal.returns
returns c = record {
  turns = λ rs r h t. (follows-open rs r h t, open-follows rs r h t);
  next = λ rs r h t. pending-next rs r (timed-take_time (r ∷ rs) h t).0 h.0.issue.can.in_order;
  done = λ rs t. (all_done-open rs t, open-all_done rs t);
}
