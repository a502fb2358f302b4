use Rattle.std.proofs.Common.{◌+◌, arith}
use Rattle.i9_processor.specs.State.{state_of}
use Rattle.i9_plan.proofs.MarkLists.{past_registers}
use Rattle.i9_plan.proofs.marks.marked_above.Goals as goal

pub returns-else-register-lt32 : goal.returns-else-register-lt32
returns-else-register-lt32 c =
    let first = c.from.ensures in
    let second = c.from-2.ensures in
    past_registers (state_of c.args.p.now) c.marks-marks.result (c.from.result + c.from-2.result) (c.args.r + c.args.k) c.marks-marks.ensures c.marks-marks.type_inv (omega (arith, first, second)) c.if-register-lt32.false
