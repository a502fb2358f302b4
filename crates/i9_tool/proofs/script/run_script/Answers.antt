use Rattle.std.proofs.Common.{refl}
use Rattle.i9_debug.specs.Session.{end_at}
use Rattle.i9_tool.proofs.Outcomes.{answers_unprinted, script_runs}
use Rattle.i9_tool.proofs.script.run_script.Goals as goal

pub session-requires-clause-stands : goal.session-requires-clause-stands
session-requires-clause-stands g c = record {
  stands = c.in-Ok.ensures.stands c.args.plan.now.events c.requires.plan;
  turn = c.in-Ok.ensures.turn;
  follows = record { events = refl; place = c.requires.begins };
  events = refl;
}

pub returns-in-Ok-clause-answers : goal.returns-in-Ok-clause-answers
returns-in-Ok-clause-answers g c = λ some.
    let told = c.session.ensures in
    script_runs _ _ _ _ _ _ _ _ _ _ _ told (c.ending_of_session.ensures.told (end_at told.drives.last) told.tells)

pub returns-in-Err-clause-answers : goal.returns-in-Err-clause-answers
returns-in-Err-clause-answers g c = λ some. answers_unprinted _ _ _ some
