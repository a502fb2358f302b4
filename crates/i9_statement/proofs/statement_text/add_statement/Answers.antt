use Rattle.std.proofs.lemmas.Result.{on_ok_weaker}
use Rattle.i9_statement.specs.Statements.{statement_text}
use Rattle.i9_statement.proofs.Pieces.{statement_joined}
use Rattle.i9_statement.proofs.statement_text.add_statement.Goals as goal

pub returns : goal.returns
unfolding statement_text
returns c = on_ok_weaker c.add_spare.result (statement_joined _ _ _ _ _ _ _ _ c.in_ok-add_mnemonic.ensures c.in_ok-add_operands.ensures) c.add_spare.ensures
