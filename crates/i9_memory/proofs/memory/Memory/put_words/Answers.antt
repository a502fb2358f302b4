use Rattle.std.proofs.Common.{◌≡◌, ◌+◌, ◌*◌, subst, arith}
use Rattle.i9_model.specs.Writes.{wrapped}
use Rattle.i9_memory.specs.Memory.{IsReserved}
use Rattle.i9_memory.proofs.memory.Memory.put_words.Goals as goal

pub put_word-requires : goal.put_word-requires
put_word-requires c k h =
    let a = c.args.a in
    let i = c.loop-w.w-index in
    let here = c.loop-w.invariant.at in
    let place : wrapped (a + (4 * i + k)) ≡ wrapped (c.loop-w.at + k) = omega (arith, here) in
    subst (IsReserved c.loop-w.self) place (c.loop-w.invariant.keeps (wrapped (a + (4 * i + k))) (c.requires (4 * i + k) (omega arith)))
