use Rattle.std.proofs.Common.{refl}
use Rattle.i9_tool.proofs.tuned.line_of.Goals as goal

pub returns-in-Ok : goal.returns-in-Ok
returns-in-Ok c = (refl, c.in-Ok.ensures)
