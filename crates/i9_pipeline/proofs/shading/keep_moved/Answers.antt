use Rattle.std.proofs.Common.{[]}
use Rattle.i9_processor.specs.State.{cache_of, bytes_of}
use Rattle.i9_pipeline.proofs.Pieces.{adds_nothing, adds_held, no_frame}
use Rattle.i9_pipeline.proofs.shading.keep_moved.Goals as goal

pub returns-in-Stays-clause-adds : goal.returns-in-Stays-clause-adds
returns-in-Stays-clause-adds c = rw (c.in-Stays.is, c.requires.empty) (adds_nothing (bytes_of c.args.p.now) 15 [])

pub returns-in-Returns-clause-adds : goal.returns-in-Returns-clause-adds
returns-in-Returns-clause-adds c = rw (c.in-Returns.is, c.requires.empty) (adds_nothing (bytes_of c.args.p.now) 15 [])

pub returns-in-Flushes-clause-adds : goal.returns-in-Flushes-clause-adds
returns-in-Flushes-clause-adds c =
    let cache = cache_of c.args.p.now in
    rw (c.in-Flushes.is, c.keep_held.ensures.pieces)
    (adds_held (bytes_of c.args.p.now) cache.behind cache.held no_frame 15 c.requires.whole c.keep_held.ensures.few)
