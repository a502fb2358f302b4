use Rattle.std.proofs.Common.{arith}
use Rattle.i9_dma.proofs.Planned.{next_is, planned_length}
use Rattle.i9_dma.proofs.channels.Channels.unit.Goals as goal

pub move_bytes-requires-clause-room : goal.move_bytes-requires-clause-room
move_bytes-requires-clause-room c = grind (arith, planned_length)

pub returns-in-Err : goal.returns-in-Err
returns-in-Err c = grind (arith, next_is)

pub returns-in-Ok-None : goal.returns-in-Ok-None
returns-in-Ok-None c = grind (arith, next_is)

pub returns-in-Ok-Some : goal.returns-in-Ok-Some
returns-in-Ok-Some c = grind (arith, next_is)
