-- What memory that is lent ends as.
use Rattle.std.specs.Prelude.{[]}
use Rattle.std.specs.Borrow.{Lends, MutBor, Fml}
use Rattle.i9_memory.specs.declared.memory.Memory.{Memory}
use Rattle.i9_memory.specs.contracts.memory.Memory.{the_row as memory_row}
use Rattle.i9_queue.specs.declared.behind.Behind.{Behind}
use Rattle.i9_queue.specs.contracts.behind.Behind.{the_row}

-- a memory behind which nothing waits
abbrev pub drained : Memory → Behind
drained m = record { memory = m; queue = []; room = tt; order = tt }

-- where nothing waits, b ends with the last memory behind r
abbrev pub LendsMemory : MutBor Behind → MutBor Memory → Fml
LendsMemory b r = Lends the_row memory_row b r drained
