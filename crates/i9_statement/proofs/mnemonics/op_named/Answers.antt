use Rattle.std.proofs.Common.{sym, ap, ◌∙◌}
use Rattle.std.specs.Prelude.{find}
use Rattle.std.specs.Str.{bytes_eq}
use Rattle.i9_statement.specs.Mnemonics.{mnemonic}
use Rattle.i9_statement.proofs.FirstLetters.{named_among, nothing_named}
use Rattle.i9_statement.proofs.mnemonics.op_named.Goals as goal

pub returns-in_default : goal.returns-in_default
returns-in_default c = sym (nothing_named c.args.text.now c.in_default.len_below)

pub returns : goal.returns
returns c = c.find_name.ensures ∙ ap (find (λ op. bytes_eq c.args.text.now (mnemonic op))) c.beginning_with.ensures ∙ named_among c.args.text.now c.in-len1-up.len_at_least
