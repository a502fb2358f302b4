use Rattle.i9_course.proofs.Counted.{writes_counted}
use Rattle.i9_course.proofs.laws.written_frames_are_counted.Goals as goal

pub returns : goal.returns
returns c = writes_counted
