use Rattle.i9_machine.specs.declared.line.Turn.TheVariants as answers
use Rattle.i9_machine.specs.Progress.{progress}
use Rattle.i9_machine.proofs.Turned.{none_done, does_since, ends_since, stops_since, risen_since, still_since, does_under_way, still_under_way}
use Rattle.i9_machine.proofs.machine.Machine.turn_on.Goals as goal

pub steps-init : goal.steps-init
steps-init c = (
  c.requires.stands,
  λ g h stands follows. none_done g h (progress c.args.self.now c.args.plan.now c.args.out.now.items) stands follows,
)

pub returns-then-self-begun : goal.returns-then-self-begun
returns-then-self-begun c = record {
  next = λ g h stands follows.
      let held = c.steps.invariant.1 g h stands follows in
      risen_since g h _ _ held _ (c.in-On.ensures.only g _ held.0.stands held.0.follows)
      (c.in-On.ensures.next g _ held.0.stands held.0.follows) c.if-self-begun.true;
  lacking = λ g h stands follows is. absurd (cc is);
}

pub steps-preserved-else-self-begun : goal.steps-preserved-else-self-begun
steps-preserved-else-self-begun c =
    let under = c.steps.invariant.0 in (
      still_under_way under.given under.items _ (progress c.advance.new.self c.advance.new.plan c.advance.new.out.items)
          (c.in-On.ensures.next under.given under.items under.stands under.follows),
      λ g h stands follows.
          let held = c.steps.invariant.1 g h stands follows in
          still_since g h _ _ held _ (c.in-On.ensures.only g _ held.0.stands held.0.follows)
          (c.in-On.ensures.next g _ held.0.stands held.0.follows) c.if-self-begun.false,
    )

pub steps-preserved : goal.steps-preserved
steps-preserved c =
    let under = c.steps.invariant.0 in
    let answer = answers.Issued c.in-Issued.field-0 in (
      does_under_way under.given under.items answer _ (progress c.advance.new.self c.advance.new.plan c.advance.new.out.items)
          (c.in-Issued.ensures.next under.given under.items under.stands under.follows),
      λ g h stands follows.
          let held = c.steps.invariant.1 g h stands follows in
          does_since g h _ _ held _ (c.in-Issued.ensures.only g _ held.0.stands held.0.follows) answer
          (c.in-Issued.ensures.next g _ held.0.stands held.0.follows),
    )

pub returns-in-End : goal.returns-in-End
returns-in-End c = record {
  next = λ g h stands follows.
      let held = c.steps.invariant.1 g h stands follows in
      ends_since g h _ _ held _ (c.in-End.ensures.only g _ held.0.stands held.0.follows) c.in-End.e
      (c.in-End.ensures.next g _ held.0.stands held.0.follows);
  lacking = λ g h stands follows is. absurd (cc is);
}

pub returns-in-Memory : goal.returns-in-Memory
returns-in-Memory c = record {
  next = λ g h stands follows.
      let held = c.steps.invariant.1 g h stands follows in
      stops_since g h _ _ held _ (c.in-Memory.ensures.only g _ held.0.stands held.0.follows)
      (c.in-Memory.ensures.next g _ held.0.stands held.0.follows);
  lacking = c.in-Memory.ensures.still_lacking;
}
