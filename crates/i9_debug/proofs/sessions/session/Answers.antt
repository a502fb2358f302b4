use Rattle.std.proofs.Common.{[], take, refl, sym, ◌∙◌}
use Rattle.std.proofs.lemmas.List.{take_all}
use Rattle.i9_lines.specs.declared.print.Printed.TheVariants.{Write, Memory}
use Rattle.i9_debug.specs.Session.{at}
use Rattle.i9_debug.specs.Driven.{given_of}
use Rattle.i9_debug.proofs.Commands.{start_place, script_behind, stays_there, does_next, cut_in_next, stands_last, driven_there}
use Rattle.i9_debug.specs.Session.{no_command}
use Rattle.i9_debug.proofs.Returning.{trail_of}
use Rattle.i9_debug.proofs.sessions.session.Goals as goal

pub loop-c-init : goal.loop-c-init
loop-c-init g c =
    let what = given_of c.args.image.now c.args.sets c.args.plan.now in
    record {
      drives = stays_there _ what _ _ (at [] 1) _ _ _ (no_command (at [] 1)) c.requires.stands;
      trail = c.new-trail.ensures what;
    }

pub answer-requires-clause-stands : goal.answer-requires-clause-stands
answer-requires-clause-stands g c =
    let what = given_of c.args.image.now c.args.sets c.args.plan.now in
    let done = take c.loop-c.c-index c.commands-commands.result.now in
    driven_there _ _ _ what _ _ _ _ _ _ refl (λ q x text. (script_behind what done (at [] 1) q x (start_place what) text).1)
    c.loop-c.invariant.drives

pub answer-requires-clause-trail : goal.answer-requires-clause-trail
answer-requires-clause-trail g c =
    let what = given_of c.args.image.now c.args.sets c.args.plan.now in
    trail_of _ c.args.sets what c.args.plan.now c.loop-c.plan c.loop-c.trail refl c.loop-c.invariant.drives.stands.events c.loop-c.invariant.trail

pub returns-in-Write : goal.returns-in-Write
returns-in-Write g c =
    let what = given_of c.args.image.now c.args.sets c.args.plan.now in
    rw (← c.commands-commands.ensures.commands) (record {
      drives = cut_in_next _ what (at [] 1) (start_place what) _ c.loop-c.c-index _ c.loop-c-test.true _ _ _ _ _
          c.loop-c.invariant.drives Write _ _ (λ q is at_q. c.in-Write.ensures.drives what q refl is at_q) tt
          c.commands-commands.ensures.limits.each;
      tells = tt;
    })

pub returns-in-Memory : goal.returns-in-Memory
returns-in-Memory g c =
    let what = given_of c.args.image.now c.args.sets c.args.plan.now in
    rw (← c.commands-commands.ensures.commands) (record {
      drives = cut_in_next _ what (at [] 1) (start_place what) _ c.loop-c.c-index _ c.loop-c-test.true _ _ _ _ _
          c.loop-c.invariant.drives Memory _ _ (λ q is at_q. c.in-Memory.ensures.drives what q refl is at_q) tt
          c.commands-commands.ensures.limits.each;
      tells = tt;
    })

pub loop-c-preserved : goal.loop-c-preserved
loop-c-preserved g c =
    let what = given_of c.args.image.now c.args.sets c.args.plan.now in
    let so_far = c.loop-c.invariant.drives in
    record {
      drives = does_next _ what (at [] 1) (start_place what) _ c.loop-c.c-index _ c.loop-c-test.true _ _ _ _ _
          so_far _ _ _ (λ q is at_q. c.in-Done.ensures.drives what q refl is at_q);
      trail = trail_of _ c.args.sets what c.loop-c.plan c.args.plan.now c.answer.new.trail so_far.stands.events refl c.in-Done.ensures.trail;
    }

pub returns-in-None : goal.returns-in-None
returns-in-None g c =
    let d = c.loop-c.invariant.drives in
    let here = stands_last _ _ _ _ _ _ _ _ d in
    let whole = take_all c.loop-c.c-index c.commands-commands.result.now c.loop-c-test.false in
    rw (← c.commands-commands.ensures.commands, ← whole)
    (record { drives = d; tells = sym (c.ended.ensures _ d.last.items d.last.end here.stands) ∙ c.in-None.is })

pub returns : goal.returns
returns g c =
    let d = c.loop-c.invariant.drives in
    let here = stands_last _ _ _ _ _ _ _ _ d in
    let whole = take_all c.loop-c.c-index c.commands-commands.result.now c.loop-c-test.false in
    rw (← c.commands-commands.ensures.commands, ← whole)
    (record { drives = d; tells = sym (c.ended.ensures _ d.last.items d.last.end here.stands) ∙ c.in-Some.is })
