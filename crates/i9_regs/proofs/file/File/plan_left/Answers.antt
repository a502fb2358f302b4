use Rattle.i9_regs.specs.File.{cell_in, latest_of}
use Rattle.i9_regs.proofs.Issued.{none_issued}
use Rattle.i9_regs.proofs.file.File.plan_left.Goals as goal

pub returns-else-left-ne0-clause-registers : goal.returns-else-left-ne0-clause-registers
returns-else-left-ne0-clause-registers c = λ r low.
    none_issued c.args.left c.args.done r (latest_of c.args.self.now r) (cell_in c.args.self.now r) c.if-left-ne0.false low
