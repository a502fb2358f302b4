use Rattle.std.proofs.lemmas.Result.{err_from_is_err_and}
use Rattle.i9_schedule.specs.Plan.{contents}
use Rattle.i9_tool.specs.declared.refusal.FileKind.TheVariants.{Schedule}
use Rattle.i9_tool.specs.FileKinds.{file_of}
use Rattle.i9_tool.proofs.Reading.{reads_missed, reads_parsed, says_parsed}
use Rattle.i9_tool.proofs.files.read_schedule.Goals as goal

pub returns-in_err-file-clause-reads : goal.returns-in_err-file-clause-reads
returns-in_err-file-clause-reads g c =
    let p = err_from_is_err_and c.from_residual.result c.from_residual.ensures.1 in
    rw (p.1, p.2) (reads_missed _ (file_of Schedule c.args.name.now) _ _ _ c.in_err-file.ensures.fetches c.in_err-file.ensures.missed)

pub returns-clause-reads : goal.returns-clause-reads
returns-clause-reads g c =
    reads_parsed _ Schedule c.args.name.now (contents) _ _ c.deref.ensures.value _ _ c.in_ok-file.ensures.whole _ c.in_ok-file.ensures.fetches c.schedule_in.ensures

pub returns-clause-says : goal.returns-clause-says
returns-clause-says g c =
    says_parsed (g.F.Files.told c.args.files.now) Schedule c.args.name.now _ _ c.deref.ensures.value c.in_ok-file.ensures.whole (contents) _ c.schedule_in.ensures
