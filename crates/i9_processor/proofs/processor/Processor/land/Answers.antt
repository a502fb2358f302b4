use Rattle.std.proofs.Common.{arith}
use Rattle.i9_processor.specs.State.{state_of, cache_of, size_of, cells_of, bytes_of, queue_of}
use Rattle.i9_processor.proofs.Drained.{bytes_stay}
use Rattle.i9_processor.proofs.Rooms.{room_kept}
use Rattle.i9_processor.proofs.processor.Processor.land.Goals as goal

pub returns-then-is_drained-clause-bytes : goal.returns-then-is_drained-clause-bytes
unfolding bytes_of queue_of
returns-then-is_drained-clause-bytes c = grind (arith, bytes_stay)

pub returns-then-is_drained-clause-queue : goal.returns-then-is_drained-clause-queue
unfolding queue_of
returns-then-is_drained-clause-queue c = grind arith

pub returns-clause-seen : goal.returns-clause-seen
unfolding state_of cache_of size_of cells_of
returns-clause-seen c = grind arith

pub returns-clause-keeps : goal.returns-clause-keeps
returns-clause-keeps c =
    room_kept c.args.self.now (record c.args.self.now { storage = c.land.new.self }) c.land.ensures.pages.space c.land.ensures.pages.soft_space c.land.ensures.frame_space
