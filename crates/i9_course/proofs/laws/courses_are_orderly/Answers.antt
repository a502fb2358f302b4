use Rattle.i9_course.proofs.Timed.{course_fenced, course_timed, course_costs, course_quiet}
use Rattle.i9_course.proofs.Orderly.{course_orderly, course_past, counted_past, course_leaves}
use Rattle.i9_course.proofs.laws.courses_are_orderly.Goals as goal

pub returns : goal.returns
returns c = record {
  past = course_past;
  counted = counted_past;
  fenced = course_fenced;
  timed = course_timed;
  costs = course_costs;
  quiet = course_quiet;
  leaves = course_leaves;
  orderly = course_orderly;
}
