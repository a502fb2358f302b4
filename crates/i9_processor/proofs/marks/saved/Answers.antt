use Rattle.i9_processor.proofs.MarkBits.{saved_bits, return_bit}
use Rattle.i9_processor.proofs.marks.saved.Goals as goal

pub returns-clause-marks : goal.returns-clause-marks
returns-clause-marks c = saved_bits c.args.marks

pub returns-clause-known : goal.returns-clause-known
returns-clause-known c = return_bit c.args.marks
