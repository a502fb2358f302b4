use Rattle.std.proofs.Common.{refl}
use Rattle.i9_schedule.specs.Plan.{contents}
use Rattle.i9_tool.proofs.Reading.{reads_none}
use Rattle.i9_tool.proofs.inputs.read_plan.Goals as goal

pub returns-in_ok-plan-in-Some-clause-says : goal.returns-in_ok-plan-in-Some-clause-says
returns-in_ok-plan-in-Some-clause-says g c =
    rw c.in-Some.is (record { said = (contents c.in_ok-plan-in-Some.plan, tt); are_read = (c.in_ok-plan-in-Some.ensures.says, tt); is = refl })

pub returns-in-None-clause-reads : goal.returns-in-None-clause-reads
returns-in-None-clause-reads g c = rw c.in-None.is (reads_none _ _)

pub returns-in-None-clause-says : goal.returns-in-None-clause-says
returns-in-None-clause-says g c = rw c.in-None.is (record { said = tt; are_read = tt; is = refl })
