use Rattle.std.proofs.Common.{◌≡◌, ◌∙◌, sym, None, ◌+◌}
use Rattle.i9_debug.specs.Session.{TurnsTo}
use Rattle.i9_debug.proofs.Commands.{on_its_way, stays_there, over_stays, none_ended, some_ended}
use Rattle.i9_debug.proofs.sessions.turn_on.Goals as goal

pub run_turns-requires : goal.run_turns-requires
run_turns-requires g c =
    let r = c.requires.stands in
    record {
      stands = on_its_way c.args.m.now c.args.plan.now r (none_ended r.end (sym (c.ended.ensures r.given r.items r.end r.stands) ∙ c.in-None.is));
      some = c.requires.some;
      few = c.requires.few;
    }

pub returns-in-None : goal.returns-in-None
returns-in-None g c = λ what p at_place.
    let none : p.end ≡ None = none_ended p.end (sym (c.ended.ensures what p.items p.end at_place.stands) ∙ c.in-None.is) in
    rw (none, ← at_place.turn) (c.run_turns.ensures what p.items (rw none at at_place.stands) (rw none at at_place.follows))

pub returns-in-Some : goal.returns-in-Some
returns-in-Some g c = λ what p at_place.
    let over = some_ended p.end _ (sym (c.ended.ensures what p.items p.end at_place.stands) ∙ c.in-Some.is) in
    stays_there _ what _ _ p _ _ _ (over_stays (TurnsTo what p.items (p.turn + c.args.count)) p over.0 over.1) at_place
