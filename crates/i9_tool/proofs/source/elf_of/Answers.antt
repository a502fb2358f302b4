use Rattle.std.proofs.Common.{Err, ap}
use Rattle.i9_hex.proofs.Placed.{some_runs}
use Rattle.i9_tool.specs.Outcome.{as_elf, too_many_runs}
use Rattle.i9_tool.proofs.source.elf_of.Goals as goal

pub write-requires : goal.write-requires
write-requires c = c.requires.can.few

pub returns-in-Ok : goal.returns-in-Ok
returns-in-Ok c =
    let runs = some_runs c.args.image.now c.requires.can.bytes in
    let file = c.in-Ok.ensures.file runs.0 runs.1 in
    rw file.1 (as_elf c.args.image.now runs.0 runs.1 file.0)

pub returns-in-Err-Segments : goal.returns-in-Err-Segments
returns-in-Err-Segments c =
    let runs = some_runs c.args.image.now c.requires.can.bytes in
    too_many_runs c.args.image.now runs.0 runs.1 (c.in-Err-Segments.ensures.segments (ap Err c.in-Err-Segments.field-0-is) runs.0 runs.1)
