use Rattle.i9_turns.proofs.LateQueues.{waiting-in-order, waiting-count}
use Rattle.i9_turns.proofs.late_laws.requests_wait_in_order.Goals as goal

pub returns-clause-order : goal.returns-clause-order
returns-clause-order c = waiting-in-order

pub returns-clause-count : goal.returns-clause-count
returns-clause-count c = waiting-count
