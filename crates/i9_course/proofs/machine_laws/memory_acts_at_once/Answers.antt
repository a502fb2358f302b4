use Rattle.i9_course.proofs.Landed.{acts_at_once}
use Rattle.i9_course.proofs.machine_laws.memory_acts_at_once.Goals as goal

pub returns : goal.returns
returns c = acts_at_once
