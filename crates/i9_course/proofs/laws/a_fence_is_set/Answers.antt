use Rattle.i9_course.proofs.Steps.{fence_lands}
use Rattle.i9_course.proofs.laws.a_fence_is_set.Goals as goal

pub returns : goal.returns
returns c = fence_lands
