use Rattle.std.proofs.Common.{sym, ap, ◌∙◌}
use Rattle.i9_asm.specs.Lines.{one_value}
use Rattle.i9_asm.proofs.Several.{more_than_one}
use Rattle.i9_asm.proofs.lines.one_value.Goals as goal

pub returns-then-is_some : goal.returns-then-is_some
returns-then-is_some c = λ item. ap (one_value item) (sym c.in_ok-text.ensures ∙ c.split_field.ensures.fields) ∙ more_than_one item c.split_field.result.0.now c.split_field.result.1 (sym c.is_some.ensures ∙ c.if-is_some.true)
