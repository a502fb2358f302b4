use Rattle.std.proofs.Common.{refl}
use Rattle.i9_tool.proofs.files.schedule_in.Goals as goal

pub returns-in-Err-Bad : goal.returns-in-Err-Bad
returns-in-Err-Bad c = (_, rw c.in-Err-Bad.field-0-is at c.in-Err-Bad.ensures.refused, refl)
