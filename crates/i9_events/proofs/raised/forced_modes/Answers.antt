use Rattle.std.proofs.Common.{Bool, ap, ◌∙◌}
use Rattle.i9_events.proofs.Masks.{bit_if}
use Rattle.i9_events.proofs.Events.{mark_alone}
use Rattle.i9_events.proofs.raised.forced_modes.Goals as goal

pub returns : goal.returns
returns c = c.bit_where.ensures ∙ ap (λ (b : Bool). bit_if b 7) c.always_marks.ensures ∙ mark_alone c.args.op c.args.matched
