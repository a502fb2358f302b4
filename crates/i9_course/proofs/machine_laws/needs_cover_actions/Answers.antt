use Rattle.i9_course.proofs.NeedCovers.{need_covers}
use Rattle.i9_course.proofs.machine_laws.needs_cover_actions.Goals as goal

pub returns : goal.returns
returns c = need_covers
