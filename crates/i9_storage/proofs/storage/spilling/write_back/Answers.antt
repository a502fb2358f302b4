use Rattle.std.proofs.Common.{◌≡◌, length, arith}
use Rattle.i9_model.specs.HeldFrames.{over}
use Rattle.i9_queue.specs.Behind.{settled}
use Rattle.i9_storage.proofs.HeldRooms.{none_left}
use Rattle.i9_storage.proofs.storage.spilling.write_back.Goals as goal

pub returns-clause-cache : goal.returns-clause-cache
returns-clause-cache c =
    let none : length c.loop.sets.frames ≡ 0 = omega (arith, c.loop.invariant.left, c.loop-test.false, c.len-end.ensures, c.loop.auto.counter-end) in
    none_left c.loop.sets.frames (settled c.loop.behind) (over c.args.sets.now.frames (settled c.args.behind.now)) none c.loop.invariant.laid
