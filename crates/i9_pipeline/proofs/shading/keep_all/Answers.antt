use Rattle.std.proofs.Common.{[]}
use Rattle.i9_course.specs.Course.{move_writes}
use Rattle.i9_processor.specs.Effect.{move_in, writes_in}
use Rattle.i9_processor.specs.State.{state_of, cache_of, size_of, bytes_of}
use Rattle.i9_pipeline.proofs.Pieces.{adds_both, hides_of}
use Rattle.i9_pipeline.proofs.shading.keep_all.Goals as goal

pub returns-clause-hides : goal.returns-clause-hides
returns-clause-hides c =
    let p = c.args.p.now in
    let e = c.args.e.now in
    let moved = move_writes (size_of p) (cache_of p) (move_in (state_of p) e.frames) in
    hides_of (bytes_of p) _ 18 c.keep_stored.new.shade.pieces
    (adds_both (bytes_of p) moved (writes_in e) 15 3 [] c.keep_moved.new.shade.pieces c.keep_stored.new.shade.pieces c.keep_moved.ensures.adds c.keep_stored.ensures.adds)
