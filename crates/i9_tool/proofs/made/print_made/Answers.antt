use Rattle.std.proofs.Common.{refl, arith}
use Rattle.i9_tool.proofs.Outcomes.{answers_line, answers_with}
use Rattle.i9_tool.proofs.made.print_made.Goals as goal

pub returns-in-Ok-Text-clause-prints : goal.returns-in-Ok-Text-clause-prints
returns-in-Ok-Text-clause-prints g c =
    rw c.in-Ok-Text.is (rw c.in-Ok-Text.field-0-is (answers_line _ _ _ 0 _ _ _ _ _ (omega arith) (refl, refl) c.deref.ensures.value c.print_text.ensures.prints c.ending_for.ensures))

pub returns-in-Ok-Fault-clause-prints : goal.returns-in-Ok-Fault-clause-prints
returns-in-Ok-Fault-clause-prints g c =
    rw c.in-Ok-Fault.is (rw c.in-Ok-Fault.field-0-is (answers_line _ _ _ 3 _ _ _ _ _ (omega arith) (refl, refl) c.deref-in-Ok-Fault.ensures.value c.print_text-in-Ok-Fault.ensures.prints c.ending_for-in-Ok-Fault.ensures))

pub returns-in-Ok-TooManyRuns-clause-prints : goal.returns-in-Ok-TooManyRuns-clause-prints
returns-in-Ok-TooManyRuns-clause-prints g c =
    rw c.in-Ok-TooManyRuns.is (rw c.in-Ok-TooManyRuns.field-0-is (answers_with _ _ _ 3 _ _ _ _ (omega arith) (refl, refl) c.print_piece.ensures.prints c.ending_for-in-Ok-TooManyRuns.ensures))
