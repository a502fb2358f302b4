use Rattle.std.proofs.Common.{refl}
use Rattle.i9_tool.proofs.AssembledBytes.{assembled_bytes}
use Rattle.i9_tool.proofs.files.source_in.Goals as goal

pub returns-in-Ok-clause-bytes : goal.returns-in-Ok-clause-bytes
returns-in-Ok-clause-bytes c = assembled_bytes _ _ c.in-Ok.ensures.found

pub returns-in-Err-Bad-clause-parses : goal.returns-in-Err-Bad-clause-parses
returns-in-Err-Bad-clause-parses c = (_, rw c.in-Err-Bad.field-0-is at c.in-Err-Bad.ensures.refused, refl)
