use Rattle.std.proofs.Common.{[], ◌∷◌, ◌∙◌}
use Rattle.std.proofs.lemmas.Result.{err_from_is_err_and}
use Rattle.std.specs.Option.{option_copied}
use Rattle.i9_model.specs.Image.{pairs_of}
use Rattle.i9_tool.specs.declared.refusal.FileKind.TheVariants.{Image}
use Rattle.i9_tool.specs.FileKinds.{file_of}
use Rattle.i9_tool.specs.CommandLine.{plan_files, driver_files}
use Rattle.i9_tool.specs.Words.{driver_by}
use Rattle.i9_tool.proofs.Reading.{reads_then, reads_cut}
use Rattle.i9_tool.proofs.RunInputs.{run_read}
use Rattle.i9_tool.proofs.inputs.read_run.Goals as goal

pub returns-in_err-image-clause-reads : goal.returns-in_err-image-clause-reads
returns-in_err-image-clause-reads g c =
    let p = err_from_is_err_and c.from_residual.result c.from_residual.ensures.1 in
    rw (p.1, p.2) (reads_cut _ (file_of Image c.args.words.now.image.now ∷ []) _ _ _ _ c.in_err-image.ensures.reads)

pub returns-in_err-plan-clause-reads : goal.returns-in_err-plan-clause-reads
returns-in_err-plan-clause-reads g c =
    let p = err_from_is_err_and c.from_residual-in_err-plan.result c.from_residual-in_err-plan.ensures.1 in
    let image = c.in_ok-image in
    rw (p.1, p.2) (reads_then _ (file_of Image c.args.words.now.image.now ∷ []) _ _ _ _ _ (pairs_of image.image, tt) image.ensures.reads (image.ensures.says, tt)
    (reads_cut _ (plan_files (option_copied c.args.words.now.schedule)) (driver_files (driver_by c.args.words.now.driver)) _ _ _ c.in_err-plan.ensures.reads))

pub returns-in_err-drive-clause-reads : goal.returns-in_err-drive-clause-reads
returns-in_err-drive-clause-reads g c =
    let p = err_from_is_err_and c.from_residual-in_err-drive.result c.from_residual-in_err-drive.ensures.1 in
    let image = c.in_ok-image in
    let plan = c.in_ok-plan.ensures in
    rw (p.1, p.2) (reads_then _ (file_of Image c.args.words.now.image.now ∷ []) _ _ _ _ _ (pairs_of image.image, tt) image.ensures.reads (image.ensures.says, tt)
    (reads_then _ (plan_files (option_copied c.args.words.now.schedule)) _ _ _ _ _ plan.says.said plan.reads plan.says.are_read c.in_err-drive.ensures.reads))

pub returns-clause-reads : goal.returns-clause-reads
returns-clause-reads g c =
    let image = c.in_ok-image in
    let plan = c.in_ok-plan.ensures in
    reads_then _ (file_of Image c.args.words.now.image.now ∷ []) _ _ _ _ _ (pairs_of image.image, tt) image.ensures.reads (image.ensures.says, tt)
    (reads_then _ (plan_files (option_copied c.args.words.now.schedule)) _ _ _ _ _ plan.says.said plan.reads plan.says.are_read c.in_ok-drive.ensures.reads)

pub returns-clause-says : goal.returns-clause-says
returns-clause-says g c =
    let image = c.in_ok-image.ensures in
    let plan = c.in_ok-plan.ensures in
    let drive = c.in_ok-drive.ensures in
    run_read _ _ _ image.reads.same (λ n. plan.reads.same n ∙ image.reads.same n) _ _ _ _ _ _ _ image.says plan.says drive.says
