use Rattle.std.proofs.Common.{[], refl}
use Rattle.i9_model.specs.Given.{given}
use Rattle.i9_model.specs.Image.{pairs_of}
use Rattle.i9_tool.proofs.Running.{nothing_yet, under_way}
use Rattle.i9_tool.proofs.run.run_filtered.Goals as goal

pub run_machine-requires : goal.run_machine-requires
run_machine-requires g c =
    let what = given (pairs_of c.args.image.now) c.args.plan.now.events c.args.limit c.args.sets in
    record {
      stands = under_way what [] _ c.args.plan.now (c.in-Ok.ensures.stands c.args.plan.now.events c.requires.plan)
          (record { events = refl; place = c.requires.begins });
    }

pub returns-in-Ok : goal.returns-in-Ok
returns-in-Ok g c =
    let what = given (pairs_of c.args.image.now) c.args.plan.now.events c.args.limit c.args.sets in
    let driven = c.run_machine.ensures what (c.in-Ok.ensures.stands c.args.plan.now.events c.requires.plan)
    (record { events = refl; place = c.requires.begins }) in
    driven.traces

pub returns-in-Err : goal.returns-in-Err
returns-in-Err g c = nothing_yet _ (given (pairs_of c.args.image.now) c.args.plan.now.events c.args.limit c.args.sets) _ _
