use Rattle.std.proofs.Common.{◌∙◌}
use Rattle.i9_decode.proofs.Tables.{look_found}
use Rattle.i9_decode.proofs.names.name_of.Goals as goal

pub returns : goal.returns
returns c = c.name_at.ensures ∙ rw (c.opcode.ensures, c.extension.ensures) (look_found c.args.w)
