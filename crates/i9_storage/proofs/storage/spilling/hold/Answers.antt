use Rattle.std.proofs.Common.{arith}
use Rattle.i9_storage.proofs.HeldRooms.{oldest_room}
use Rattle.i9_storage.proofs.storage.spilling.hold.Goals as goal

pub put_words-requires-clause-room : goal.put_words-requires-clause-room
put_words-requires-clause-room c = grind (arith, oldest_room)
