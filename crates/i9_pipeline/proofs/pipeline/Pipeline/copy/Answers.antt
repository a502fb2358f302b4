use Rattle.i9_pipeline.specs.Flow.{flow_of}
use Rattle.i9_pipeline.proofs.pipeline.Pipeline.copy.Goals as goal

pub returns-clause-same : goal.returns-clause-same
returns-clause-same c =
    let made = c.in_ok-processor.ensures.contents in
    let seen = made.seen in
    λ i. record (flow_of c.args.self.now) {
      state = seen.state i;
      size = seen.size i;
      cache = seen.cache i;
      board = c.copy-board.ensures i;
      cells = seen.cells i;
      bytes = made.bytes i;
      queue = made.queue i;
      shade = c.copy-shade.ensures i;
    }
