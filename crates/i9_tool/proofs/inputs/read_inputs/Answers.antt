use Rattle.std.proofs.Common.{refl}
use Rattle.i9_model.specs.Image.{pairs_of}
use Rattle.i9_tool.proofs.Reading.{reads_none}
use Rattle.i9_tool.proofs.inputs.read_inputs.Goals as goal

pub returns-in_ok-image-in-Asm-clause-says : goal.returns-in_ok-image-in-Asm-clause-says
returns-in_ok-image-in-Asm-clause-says g c =
    rw c.in-Asm.is (record { said = (c.in_ok-image-in-Asm.image, tt); are_read = (c.in_ok-image-in-Asm.ensures.says, tt); is = refl })

pub returns-in_ok-image-in-Dis-clause-says : goal.returns-in_ok-image-in-Dis-clause-says
returns-in_ok-image-in-Dis-clause-says g c =
    let read = c.in_ok-image-in-Dis in
    rw c.in-Dis.is (record { said = (pairs_of read.image, tt); are_read = (read.ensures.says, tt); is = refl })

pub returns-in-Gen-clause-reads : goal.returns-in-Gen-clause-reads
returns-in-Gen-clause-reads g c = rw c.in-Gen.is (reads_none _ _)

pub returns-in-Gen-clause-says : goal.returns-in-Gen-clause-says
returns-in-Gen-clause-says g c = rw c.in-Gen.is (record { said = tt; are_read = tt; is = refl })

pub returns-in_ok-image-in-Tune-clause-says : goal.returns-in_ok-image-in-Tune-clause-says
returns-in_ok-image-in-Tune-clause-says g c =
    let read = c.in_ok-image-in-Tune in
    rw c.in-Tune.is (record { said = (pairs_of read.image, tt); are_read = (read.ensures.says, tt); is = refl })
