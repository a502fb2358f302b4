use Rattle.std.proofs.Common.{◌∙◌, if◌then◌else◌}
use Rattle.i9_pipeline.specs.Flow.{flow_of, moved_to}
use Rattle.i9_pipeline.proofs.pipeline.Pipeline.settle.Goals as goal

pub returns-clause-settled : goal.returns-clause-settled
returns-clause-settled c =
    let old = c.args.self.now in
    let until = c.all_done-until in
    let floor = if c.args.fenced then until.result else old.floor in
    record {
      until = until.result;
      end = until.ensures.computed;
      settled = (λ i. record (c.move_to.ensures.moved i) { floor = c.fence_at-floor.ensures i })
          ∙ λ i. record (moved_to (c.max.ensures i) (flow_of old)) { floor = floor };
    }
