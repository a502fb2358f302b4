use Rattle.i9_turns.proofs.LateOrder.{issued-by, orderly}
use Rattle.i9_turns.proofs.late_laws.turns_keep_order.Goals as goal

pub returns-clause-issued : goal.returns-clause-issued
returns-clause-issued c = issued-by

pub returns-clause-orderly : goal.returns-clause-orderly
returns-clause-orderly c = orderly
