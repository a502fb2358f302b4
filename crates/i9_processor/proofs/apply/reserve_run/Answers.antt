use Rattle.i9_processor.proofs.Rooms.{all_kept}
use Rattle.i9_processor.proofs.apply.reserve_run.Goals as goal

pub returns-clause-keeps : goal.returns-clause-keeps
returns-clause-keeps c = all_kept c.args.storage.now c.reserve.new.self c.reserve_soft.new.self c.reserve.ensures.keeps c.reserve_soft.ensures.keeps
