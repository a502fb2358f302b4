use Rattle.i9_processor.proofs.Rooms.{all_kept}
use Rattle.i9_processor.proofs.apply.reserve_requests.Goals as goal

pub returns-clause-keeps : goal.returns-clause-keeps
returns-clause-keeps c = all_kept c.args.storage.now c.reserve_one.new.storage c.reserve_one-2.new.storage c.reserve_one.ensures.keeps c.reserve_one-2.ensures.keeps
