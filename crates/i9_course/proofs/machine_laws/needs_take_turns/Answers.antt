use Rattle.i9_course.proofs.Timed.{need_cost}
use Rattle.i9_course.proofs.machine_laws.needs_take_turns.Goals as goal

pub returns : goal.returns
returns c = need_cost
