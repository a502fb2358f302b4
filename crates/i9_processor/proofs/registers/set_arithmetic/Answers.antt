use Rattle.i9_processor.proofs.RegisterList.{registers_beside, arithmetic_of-set}
use Rattle.i9_processor.proofs.registers.set_arithmetic.Goals as goal

pub returns-clause-registers : goal.returns-clause-registers
returns-clause-registers c = registers_beside c.args.file.now c.set.new.self c.set.ensures.others

pub returns-clause-ac : goal.returns-clause-ac
returns-clause-ac c = arithmetic_of-set c.set.new.self c.args.ac c.set.ensures.cell
