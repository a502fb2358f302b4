use Rattle.i9_processor.specs.State.{state_of}
use Rattle.i9_plan.proofs.MarkLists.{stale_word}
use Rattle.i9_plan.proofs.marks.is_stale.Goals as goal

pub returns : goal.returns
returns c = stale_word (state_of c.args.p.now).frames.soft c.stale.result c.args.a c.ranges.a.fits c.stale.ensures
