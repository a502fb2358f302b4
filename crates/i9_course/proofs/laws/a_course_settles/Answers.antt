use Rattle.i9_course.proofs.Settled.{course_settles}
use Rattle.i9_course.proofs.laws.a_course_settles.Goals as goal

pub returns : goal.returns
returns c = course_settles
