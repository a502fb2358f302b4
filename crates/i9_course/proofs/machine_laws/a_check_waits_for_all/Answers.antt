use Rattle.i9_course.proofs.Checks.{checked_waits}
use Rattle.i9_course.proofs.machine_laws.a_check_waits_for_all.Goals as goal

pub returns : goal.returns
returns c = checked_waits
