use Rattle.std.proofs.lemmas.Result.{err_from_is_err_and}
use Rattle.i9_tool.specs.declared.refusal.FileKind.TheVariants.{Script}
use Rattle.i9_tool.specs.FileKinds.{file_of}
use Rattle.i9_tool.proofs.Reading.{reads_missed, reads_parsed, says_parsed}
use Rattle.i9_tool.proofs.files.read_commands.Goals as goal

pub returns-in_err-file-clause-reads : goal.returns-in_err-file-clause-reads
returns-in_err-file-clause-reads g c =
    let p = err_from_is_err_and c.from_residual.result c.from_residual.ensures.1 in
    rw (p.1, p.2) (reads_missed _ (file_of Script c.args.name.now) _ _ _ c.in_err-file.ensures.fetches c.in_err-file.ensures.missed)

pub returns-clause-reads : goal.returns-clause-reads
returns-clause-reads g c =
    reads_parsed _ Script c.args.name.now (λ commands. commands) _ _ c.deref.ensures.value _ _ c.in_ok-file.ensures.whole _ c.in_ok-file.ensures.fetches c.script_in.ensures

pub returns-clause-says : goal.returns-clause-says
returns-clause-says g c =
    says_parsed (g.F.Files.told c.args.files.now) Script c.args.name.now _ _ c.deref.ensures.value c.in_ok-file.ensures.whole (λ commands. commands) _ c.script_in.ensures
