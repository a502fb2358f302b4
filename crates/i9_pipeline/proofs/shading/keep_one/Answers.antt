use Rattle.std.proofs.Common.{◌^◌, ◌<◌, arith}
use Rattle.i9_processor.specs.State.{bytes_of}
use Rattle.i9_pipeline.proofs.Pieces.{adds_nothing, adds_one}
use Rattle.i9_pipeline.proofs.shading.keep_one.Goals as goal

pub returns-in-Some-clause-adds : goal.returns-in-Some-clause-adds
returns-in-Some-clause-adds c =
    let low : c.in-Some.address < 2 ^ 32 = search arith in
    rw (c.in-Some.is, c.keep.ensures.pieces) (adds_one (bytes_of c.args.p.now) c.in-Some.address c.in-Some.field-0-1 c.args.shade.now.pieces low)

pub returns-in-None-clause-adds : goal.returns-in-None-clause-adds
returns-in-None-clause-adds c = rw c.in-None.is (adds_nothing (bytes_of c.args.p.now) 1 c.args.shade.now.pieces)
