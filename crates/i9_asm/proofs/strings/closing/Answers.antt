use Rattle.std.proofs.Common.{sym, ◌∙◌}
use Rattle.i9_asm.proofs.CharacterLoops.{quoted-end, quoted-more}
use Rattle.i9_asm.proofs.strings.closing.Goals as goal

pub returns-then-is_empty : goal.returns-then-is_empty
returns-then-is_empty c = quoted-end c.args.rest.now c.skip_blanks.result.now c.skip_blanks.ensures (sym c.is_empty.ensures ∙ c.if-is_empty.true)

pub returns-else-is_empty : goal.returns-else-is_empty
returns-else-is_empty c = quoted-more c.args.rest.now c.skip_blanks.result.now c.skip_blanks.ensures (sym c.is_empty.ensures ∙ c.if-is_empty.false)
