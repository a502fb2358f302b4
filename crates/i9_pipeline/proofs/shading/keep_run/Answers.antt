use Rattle.std.proofs.Common.{◌≡◌, length, rules}
use Rattle.std.proofs.lemmas.List.{nil_from_length}
use Rattle.i9_processor.specs.State.{bytes_of}
use Rattle.i9_pipeline.proofs.Pieces.{adds_nothing, adds_row}
use Rattle.i9_pipeline.proofs.shading.keep_run.Goals as goal

pub returns-then-not-is_empty-clause-adds : goal.returns-then-not-is_empty-clause-adds
returns-then-not-is_empty-clause-adds c =
    let e = c.args.e.now in
    rw (c.keep.ensures.pieces, c.len.ensures.value) (adds_row (bytes_of c.args.p.now) e.address e.bytes.items c.args.shade.now.pieces)

pub returns-else-not-is_empty-clause-adds : goal.returns-else-not-is_empty-clause-adds
returns-else-not-is_empty-clause-adds c =
    let zero : length c.args.e.now.bytes.items ≡ 0 = search rules in
    rw (nil_from_length _ zero) (adds_nothing (bytes_of c.args.p.now) 1 c.args.shade.now.pieces)
