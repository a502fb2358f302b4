use Rattle.std.proofs.Common.{◌≤◌, None, sym, subst}
use Rattle.i9_pipeline.specs.Flow.{Flow}
use Rattle.i9_machine.specs.Contents.{contents_of}
use Rattle.i9_machine.specs.StandsFor.{Stand}
use Rattle.i9_machine.proofs.machine.Machine.copy.Goals as goal

pub returns-clause-stands : goal.returns-clause-stands
returns-clause-stands c = λ g h stands.
    subst (λ (f : Flow). Stand g h None (record (contents_of c.args.self.now) { pipeline = f }))
    (sym c.in_ok-pipeline.ensures.same) stands

pub returns-clause-turn : goal.returns-clause-turn
returns-clause-turn c = λ i. (c.in_ok-pipeline.ensures.same i).turn

pub invariant_of-result : goal.invariant_of-result
invariant_of-result c =
    let old = c.args.self.now in
    record {
      short = old.short;
      below = subst (λ (f : Flow). f.state.count ≤ old.length) (sym c.in_ok-pipeline.ensures.same) old.below;
      few = old.few;
    }
