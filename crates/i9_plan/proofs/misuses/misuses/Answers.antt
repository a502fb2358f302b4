use Rattle.std.proofs.Common.{sym, ◌∙◌}
use Rattle.i9_processor.specs.State.{state_of}
use Rattle.i9_plan.proofs.MarkUses.{zero_marks, clean_misuses}
use Rattle.i9_plan.proofs.misuses.misuses.Goals as goal

pub returns-then-not-is_atomic : goal.returns-then-not-is_atomic
returns-then-not-is_atomic c =
    let s = state_of c.args.p.now in
    let plain = sym c.is_atomic.ensures ∙ c.if-not-is_atomic.true in
    sym (clean_misuses c.args.i.now s c.requires.valid (zero_marks s c.marks.result c.marks.ensures c.if-marks-eq0.true) plain)
