use Rattle.std.proofs.Common.{false, ap, sym, ◌∙◌}
use Rattle.std.proofs.lemmas.List.{append-nil}
use Rattle.i9_statement.specs.Statements.{statement_of, statement_text}
use Rattle.i9_statement.proofs.ReadStatements.{statement_of-text}
use Rattle.i9_statement.proofs.StatementWords.{statement_stands_alone}
use Rattle.i9_statement.proofs.laws.statements_read_back.Goals as goal

pub returns : goal.returns
returns c = record {
  read = λ names ip bits i low v small ignored. ap (statement_of ip names) (sym (append-nil (statement_text ip i bits))) ∙ statement_of-text ip names i bits false low small v ignored;
  words = statement_stands_alone;
}
