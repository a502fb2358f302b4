use Rattle.std.proofs.Common.{refl}
use Rattle.i9_tool.proofs.Reading.{reads_none}
use Rattle.i9_tool.proofs.inputs.read_drive.Goals as goal

pub returns-in-Length-clause-reads : goal.returns-in-Length-clause-reads
returns-in-Length-clause-reads g c = rw c.in-Length.is (reads_none _ _)

pub returns-in-Length-clause-says : goal.returns-in-Length-clause-says
returns-in-Length-clause-says g c = rw c.in-Length.is (record { said = tt; are_read = tt; is = refl })

pub returns-in_ok-script-in-Script-clause-says : goal.returns-in_ok-script-in-Script-clause-says
returns-in_ok-script-in-Script-clause-says g c =
    rw c.in-Script.is (record { said = (c.in_ok-script-in-Script.script, tt); are_read = (c.in_ok-script-in-Script.ensures.says, tt); is = refl })
