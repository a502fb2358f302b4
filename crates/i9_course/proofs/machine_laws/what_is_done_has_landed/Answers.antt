use Rattle.i9_course.proofs.Landed.{done_landed}
use Rattle.i9_course.proofs.machine_laws.what_is_done_has_landed.Goals as goal

pub returns : goal.returns
returns c = done_landed
