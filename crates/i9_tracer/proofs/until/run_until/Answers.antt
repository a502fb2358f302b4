use Rattle.std.proofs.Common.{refl}
use Rattle.i9_machine.specs.declared.line.Turn.TheVariants as answers
use Rattle.i9_machine.specs.Turned.{steps_on}
use Rattle.i9_tracer.proofs.Untils.{none_passed, on_pass, issued_pass, issued_stops, ends_first, stops_short, stays_in_run, not_again, still_stands, again_same, under_way}
use Rattle.i9_tracer.proofs.until.run_until.Goals as goal

pub steps-init : goal.steps-init
steps-init g c = record {
  in_run = c.requires.stands;
  passes = λ what h stands follows. none_passed (g.F.ViewTest.allows c.args.s.now) what h c.args.m.now c.args.plan.now c.args.out.now.items stands follows;
  same = λ what h f stands. (refl, refl, refl);
}

pub steps-preserved-in-On : goal.steps-preserved-in-On
steps-preserved-in-On g c =
    let inv = c.steps.invariant in
    record {
      in_run = stays_in_run c.steps.m c.proceed.new.self c.steps.plan c.proceed.new.plan _ c.steps.out.items c.proceed.new.out.items answers.On inv.in_run (λ e is. cc is)
          c.in-On.ensures.next c.in-On.ensures.again;
      passes = λ what h stands follows.
          let since = inv.passes what h stands follows in
          let came = c.in-On.ensures.next what (steps_on since.done h) since.stands since.follows in
          on_pass (g.F.ViewTest.allows c.args.s.now) what h c.steps.m c.steps.plan c.args.out.now.items c.steps.out.items since came.mid
          c.proceed.new.self c.proceed.new.plan c.proceed.new.out.items
          came.comes;
      same = λ what h f stands.
          absurd (not_again f answers.On c.steps.m c.proceed.new.self c.steps.out.items c.proceed.new.out.items (λ e is. cc is)
          (c.in-On.ensures.again what h f (still_stands what h f c.args.m.now c.steps.m (inv.same what h f stands).0 stands)).0);
    }

pub returns-then-holds-clause-next : goal.returns-then-holds-clause-next
returns-then-holds-clause-next g c = λ what h stands follows.
    let since = c.steps.invariant.passes what h stands follows in
    let came = c.in-Issued.ensures.next what (steps_on since.done h) since.stands since.follows in
    issued_stops (g.F.ViewTest.allows c.args.s.now) what h c.steps.m c.steps.plan c.args.out.now.items c.steps.out.items since came.mid
    c.proceed.new.self c.proceed.new.plan c.proceed.new.out.items c.in-Issued.issued c.view.result
    came.comes
    (λ items end s. c.view.ensures.shown what items end s) c.if-holds.ensures

pub returns-then-holds-clause-again : goal.returns-then-holds-clause-again
returns-then-holds-clause-again g c = λ what h f stands.
    let same = c.steps.invariant.same what h f stands in
    again_same f (answers.Issued c.in-Issued.issued) c.args.m.now c.steps.m c.proceed.new.self c.args.out.now.items c.steps.out.items c.proceed.new.out.items
    c.args.plan.now c.steps.plan c.proceed.new.plan same.0 same.1 same.2
    (c.in-Issued.ensures.again what h f (still_stands what h f c.args.m.now c.steps.m same.0 stands))

pub steps-preserved : goal.steps-preserved
steps-preserved g c =
    let inv = c.steps.invariant in
    record {
      in_run = stays_in_run c.steps.m c.proceed.new.self c.steps.plan c.proceed.new.plan _ c.steps.out.items c.proceed.new.out.items (answers.Issued c.in-Issued.issued) inv.in_run
          (λ e is. cc is) c.in-Issued.ensures.next c.in-Issued.ensures.again;
      passes = λ what h stands follows.
          let since = inv.passes what h stands follows in
          let came = c.in-Issued.ensures.next what (steps_on since.done h) since.stands since.follows in
          issued_pass (g.F.ViewTest.allows c.args.s.now) what h c.steps.m c.steps.plan c.args.out.now.items c.steps.out.items since came.mid
          c.proceed.new.self c.proceed.new.plan c.proceed.new.out.items c.in-Issued.issued c.view.result
          came.comes
          (λ items end s. c.view.ensures.shown what items end s) c.if-holds.ensures;
      same = λ what h f stands.
          absurd (not_again f (answers.Issued c.in-Issued.issued) c.steps.m c.proceed.new.self c.steps.out.items c.proceed.new.out.items (λ e is. cc is)
          (c.in-Issued.ensures.again what h f (still_stands what h f c.args.m.now c.steps.m (inv.same what h f stands).0 stands)).0);
    }

pub returns-in-End-clause-next : goal.returns-in-End-clause-next
returns-in-End-clause-next g c = λ what h stands follows.
    let since = c.steps.invariant.passes what h stands follows in
    let came = c.in-End.ensures.next what (steps_on since.done h) since.stands since.follows in
    ends_first (g.F.ViewTest.allows c.args.s.now) what h c.steps.m c.steps.plan c.args.out.now.items c.steps.out.items since came.mid
    c.proceed.new.self c.proceed.new.plan c.proceed.new.out.items c.in-End.e
    came.comes

pub returns-in-End-clause-again : goal.returns-in-End-clause-again
returns-in-End-clause-again g c = λ what h f stands.
    let same = c.steps.invariant.same what h f stands in
    again_same f (answers.End c.in-End.e) c.args.m.now c.steps.m c.proceed.new.self c.args.out.now.items c.steps.out.items c.proceed.new.out.items
    c.args.plan.now c.steps.plan c.proceed.new.plan same.0 same.1 same.2
    (c.in-End.ensures.again what h f (still_stands what h f c.args.m.now c.steps.m same.0 stands))

pub returns-in-Memory-clause-next : goal.returns-in-Memory-clause-next
returns-in-Memory-clause-next g c = λ what h stands follows.
    let since = c.steps.invariant.passes what h stands follows in
    let came = c.in-Memory.ensures.next what (steps_on since.done h) since.stands since.follows in
    stops_short (g.F.ViewTest.allows c.args.s.now) what h c.steps.m c.steps.plan c.args.out.now.items c.steps.out.items since came.mid
    c.proceed.new.self c.proceed.new.plan c.proceed.new.out.items
    came.comes

pub returns-in-Memory-clause-again : goal.returns-in-Memory-clause-again
returns-in-Memory-clause-again g c = λ what h f stands.
    let same = c.steps.invariant.same what h f stands in
    again_same f answers.Memory c.args.m.now c.steps.m c.proceed.new.self c.args.out.now.items c.steps.out.items c.proceed.new.out.items
    c.args.plan.now c.steps.plan c.proceed.new.plan same.0 same.1 same.2
    (c.in-Memory.ensures.again what h f (still_stands what h f c.args.m.now c.steps.m same.0 stands))

pub proceed-requires : goal.proceed-requires
proceed-requires g c = record { stands = under_way c.steps.m c.steps.plan c.steps.invariant.in_run }
