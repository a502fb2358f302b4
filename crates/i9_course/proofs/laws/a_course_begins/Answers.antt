use Rattle.i9_course.proofs.Steps.{none_lands}
use Rattle.i9_course.proofs.laws.a_course_begins.Goals as goal

pub returns : goal.returns
returns c = none_lands
