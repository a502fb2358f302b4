use Rattle.i9_pipeline.proofs.Landed.{course_shows}
use Rattle.i9_pipeline.proofs.laws.memory_shows.Goals as goal

pub returns : goal.returns
returns c = course_shows
