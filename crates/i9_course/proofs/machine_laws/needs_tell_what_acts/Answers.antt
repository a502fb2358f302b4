use Rattle.std.proofs.Common.{arith}
use Rattle.i9_course.proofs.NeedActs.{need_still, need_requests, need_named}
use Rattle.i9_course.proofs.machine_laws.needs_tell_what_acts.Goals as goal

pub returns : goal.returns
returns c = grind (arith, need_still, need_requests, need_named)
