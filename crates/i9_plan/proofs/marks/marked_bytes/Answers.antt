use Rattle.i9_processor.specs.State.{state_of}
use Rattle.std.proofs.Common.{ap, ◌∙◌}
use Rattle.i9_model.specs.Stale.{byte_marks}
use Rattle.i9_plan.proofs.MarkLists.{stored_low}
use Rattle.i9_plan.proofs.marks.marked_bytes.Goals as goal

pub returns-in-Words-clause-marks : goal.returns-in-Words-clause-marks
returns-in-Words-clause-marks c =
    stored_low c.args.size (state_of c.args.p.now) c.args.o c.in-Words.n c.from-in-Words.result c.byte_bits.result c.requires c.in-Words.is c.from-in-Words.ensures
    (c.byte_bits.ensures ∙ ap byte_marks c.marks_of.ensures)
