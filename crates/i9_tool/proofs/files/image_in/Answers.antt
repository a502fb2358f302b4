use Rattle.std.proofs.Common.{refl, arith}
use Rattle.i9_elf.specs.ImageReading.{fault_in}
use Rattle.i9_tool.proofs.FileAnswers.{image_said, image_faulty}
use Rattle.i9_tool.proofs.files.image_in.Goals as goal

pub returns-in-Ok : goal.returns-in-Ok
returns-in-Ok c = image_said c.args.file.now _ (λ i. omega (arith, c.type_inv.file i)) c.in-Ok.ensures.found

pub returns-in-Err-Bad : goal.returns-in-Err-Bad
returns-in-Err-Bad c =
    let bad = rw c.in-Err-Bad.field-0-is at c.in-Err-Bad.ensures.refused in
    (fault_in c.in-Err-Bad.fault, image_faulty c.args.file.now _ (λ i. omega (arith, c.type_inv.file i)) bad, refl)
