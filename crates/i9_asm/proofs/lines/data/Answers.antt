use Rattle.i9_statement.specs.Fields.{fields_of}
use Rattle.i9_asm.specs.Said.{bytes_of}
use Rattle.i9_asm.proofs.Several.{some_data}
use Rattle.i9_asm.proofs.lines.data.Goals as goal

pub returns-in-Some : goal.returns-in-Some
returns-in-Some c = some_data (bytes_of c.args.width) c.in-Some.text.now (fields_of c.args.rest.now) c.in-Some.ensures
