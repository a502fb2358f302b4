use Rattle.i9_lines.specs.declared.print.Printed.TheVariants.{Write, Memory}
use Rattle.i9_debug.proofs.Commands.{then_tells, cut_before, runs_behind, stands_last, driven_there}
use Rattle.i9_debug.proofs.Returning.{trail_of}
use Rattle.i9_debug.proofs.sessions.answer.Goals as goal

pub tell-requires-clause-stands : goal.tell-requires-clause-stands
tell-requires-clause-stands g c =
    let r = c.requires.stands in
    driven_there _ _ _ r.given _ _ _ _ _ _ r.of (λ q x runs. (runs_behind r.given c.args.c.now r.place q x r.is_place runs).1)
    (c.in-Done.ensures.drives r.given r.place r.of r.is_place r.stands)

pub tell-requires-clause-trail : goal.tell-requires-clause-trail
tell-requires-clause-trail g c =
    let r = c.requires.stands in
    let run = c.in-Done.ensures.drives r.given r.place r.of r.is_place r.stands in
    trail_of _ c.args.sets r.given c.args.plan.now c.run_command.new.plan c.run_command.new.trail r.stands.events run.stands.events c.in-Done.ensures.trail

pub returns-in-Done : goal.returns-in-Done
returns-in-Done g c =
    let r = c.requires.stands in
    let run = c.in-Done.ensures.drives r.given r.place r.of r.is_place r.stands in
    record {
      drives = λ what p of is at_place.
          let run = c.in-Done.ensures.drives what p of is at_place in
          let place = (runs_behind what c.args.c.now p run.last run.text is run.is_text).1 in
          then_tells _ what c.args.c.now p c.tell.result _ _ _ _ _ _ is c.tell.ensures.same run
          (c.tell.ensures.told what run.last of place (stands_last _ what _ _ _ _ _ _ run));
      trail = trail_of _ c.args.sets r.given c.run_command.new.plan c.args.plan.now c.tell.new.trail run.stands.events r.stands.events c.tell.ensures.trail;
    }

pub returns-in-Write-clause-drives : goal.returns-in-Write-clause-drives
returns-in-Write-clause-drives g c = λ what p of is at_place.
    cut_before _ what c.args.c.now p Write _ _ _ _ is tt (c.in-Write.ensures.drives what p of is at_place)

pub returns-in-Memory-clause-drives : goal.returns-in-Memory-clause-drives
returns-in-Memory-clause-drives g c = λ what p of is at_place.
    cut_before _ what c.args.c.now p Memory _ _ _ _ is tt (c.in-Memory.ensures.drives what p of is at_place)
