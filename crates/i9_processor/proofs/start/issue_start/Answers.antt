use Rattle.std.proofs.Common.{arith}
use Rattle.i9_processor.proofs.Issued.{start_covered, code_covered}
use Rattle.i9_processor.proofs.start.issue_start.Goals as goal

pub amend_frame-requires-clause-sets : goal.amend_frame-requires-clause-sets
amend_frame-requires-clause-sets c = grind (arith, start_covered)

pub amend_frame-requires-clause-code : goal.amend_frame-requires-clause-code
amend_frame-requires-clause-code c = grind (arith, code_covered)
