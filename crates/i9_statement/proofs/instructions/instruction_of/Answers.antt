use Rattle.i9_statement.specs.Known.{known_in}
use Rattle.i9_statement.specs.Fields.{fields_of}
use Rattle.i9_statement.proofs.ValidRead.{instruction_valid}
use Rattle.i9_statement.proofs.instructions.instruction_of.Goals as goal

pub returns-clause-valid : goal.returns-clause-valid
returns-clause-valid c = let a = c.args in rw c.read.ensures (instruction_valid a.ip a.op a.hint (known_in a.names) (fields_of a.text.now) c.requires)
