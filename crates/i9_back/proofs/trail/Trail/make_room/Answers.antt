use Rattle.i9_back.proofs.Trails.{kept_filtered}
use Rattle.i9_back.proofs.trail.Trail.make_room.Goals as goal

pub returns-then-count-ne0 : goal.returns-then-count-ne0
returns-then-count-ne0 c = λ g trail. kept_filtered _ _ g c.args.self.now.kept.items _ c.retain.ensures.filtered trail
