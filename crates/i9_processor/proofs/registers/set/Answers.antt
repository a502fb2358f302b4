use Rattle.std.proofs.Common.{rules}
use Rattle.i9_processor.proofs.RegisterList.{registers_of-set, code_of-set}
use Rattle.i9_processor.proofs.registers.set.Goals as goal

pub returns-clause-registers : goal.returns-clause-registers
returns-clause-registers c = registers_of-set c.args.file.now c.set.new.self c.args.r c.args.v c.requires c.set.ensures.cell c.set.ensures.others

pub returns-clause-keeps : goal.returns-clause-keeps
returns-clause-keeps c = record { code = code_of-set c.args.file.now c.set.new.self c.args.r c.requires c.set.ensures.others; still = search rules }
