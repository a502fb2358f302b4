use Rattle.std.proofs.Common.{refl, subst, length, ◌≤◌}
use Rattle.std.specs.Prelude.{is_ok}
use Rattle.i9_back.proofs.Trails.{kept_pushed, copy_stands}
use Rattle.i9_back.proofs.trail.Trail.keep.Goals as goal

pub returns-in-Ok : goal.returns-in-Ok
returns-in-Ok c = λ g trail s.
    kept_pushed g (is_ok c.push-refused.result) c.make_room.new.self.kept.items _ _ c.push-refused.ensures.items (c.make_room.ensures g trail) (record {
      stands = λ version. copy_stands g c.args.count c.args.m.now c.in-Ok.machine c.args.plan.now _ s (λ h stands. c.in-Ok.ensures.stands g h stands)
          c.in-Ok.ensures.turn refl c.place-place.ensures.place;
      within = subst (λ ts. c.place-place.result ≤ length ts) s.follows.events c.place-place.ensures.within;
    })

pub returns-in_default : goal.returns-in_default
returns-in_default c = λ g trail s. c.make_room.ensures g trail
