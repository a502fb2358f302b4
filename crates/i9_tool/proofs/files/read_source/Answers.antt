use Rattle.std.proofs.lemmas.Result.{err_from_is_err_and}
use Rattle.i9_tool.specs.declared.refusal.FileKind.TheVariants.{Source}
use Rattle.i9_tool.specs.FileKinds.{file_of}
use Rattle.i9_tool.proofs.Reading.{reads_missed, reads_parsed, says_parsed}
use Rattle.i9_tool.proofs.files.read_source.Goals as goal

pub returns-in_err-file-clause-reads : goal.returns-in_err-file-clause-reads
returns-in_err-file-clause-reads g c =
    let p = err_from_is_err_and c.from_residual.result c.from_residual.ensures.1 in
    rw (p.1, p.2) (reads_missed _ (file_of Source c.args.name.now) _ _ _ c.in_err-file.ensures.fetches c.in_err-file.ensures.missed)

pub returns-clause-reads : goal.returns-clause-reads
returns-clause-reads g c =
    reads_parsed _ Source c.args.name.now (λ image. image) _ _ c.deref.ensures.value _ _ c.in_ok-file.ensures.whole _ c.in_ok-file.ensures.fetches c.source_in.ensures.parses

pub returns-clause-says : goal.returns-clause-says
returns-clause-says g c =
    says_parsed (g.F.Files.told c.args.files.now) Source c.args.name.now _ _ c.deref.ensures.value c.in_ok-file.ensures.whole (λ image. image) _ c.source_in.ensures.parses
