use Rattle.std.proofs.Common.{arith}
use Rattle.i9_processor.proofs.Appending.{longer_first, none_first}
use Rattle.i9_processor.proofs.Applying.{run_long, run_none}
use Rattle.i9_processor.proofs.apply.put_bytes.Goals as goal

pub store_run-requires-clause-drained : goal.store_run-requires-clause-drained
store_run-requires-clause-drained c some = grind (arith, longer_first, run_long)

pub returns-then-is_plain-clause-still : goal.returns-then-is_plain-clause-still
returns-then-is_plain-clause-still c at_once none = grind (arith, run_none, none_first)
