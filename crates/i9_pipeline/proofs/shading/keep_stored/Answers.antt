use Rattle.i9_processor.specs.Effect.{run_in, one_in, requests_in}
use Rattle.i9_processor.specs.State.{bytes_of}
use Rattle.i9_pipeline.proofs.Pieces.{adds_both}
use Rattle.i9_pipeline.proofs.shading.keep_stored.Goals as goal

pub returns-clause-adds : goal.returns-clause-adds
returns-clause-adds c =
    let f = bytes_of c.args.p.now in
    let e = c.args.e.now in
    adds_both f (run_in e) (requests_in e.requests) 1 2 c.args.shade.now.pieces c.keep_run.new.shade.pieces c.keep_one-2.new.shade.pieces c.keep_run.ensures.adds
    (adds_both f (one_in e.requests.first) (one_in e.requests.second) 1 1 c.keep_run.new.shade.pieces c.keep_one.new.shade.pieces c.keep_one-2.new.shade.pieces
    c.keep_one.ensures.adds c.keep_one-2.ensures.adds)
