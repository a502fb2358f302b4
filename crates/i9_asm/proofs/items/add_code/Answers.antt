use Rattle.std.proofs.Common.{◌++◌, refl, ap, ◌∙◌, arith}
use Rattle.i9_statement.specs.Known.{known_in}
use Rattle.i9_asm.proofs.GivenBytes.{is_one_word, one_word, two_words}
use Rattle.i9_asm.proofs.items.add_code.Goals as goal

pub returns-in_ok-extend_from_slice-2-clause-words : goal.returns-in_ok-extend_from_slice-2-clause-words
returns-in_ok-extend_from_slice-2-clause-words c = grind (arith, two_words)

pub returns-in_default-clause-words : goal.returns-in_default-clause-words
returns-in_default-clause-words c =
    let read = c.statement_of-read.result in
    let old = c.args.bytes.now.items in
    let one = is_one_word read.value.inst c.code_of-code.result.second c.in_default.is c.code_of-code.ensures.count.1 in
    one_word (known_in c.args.names) c.args.ip c.args.text.now old c.extend_from_slice.new.self.items read c.code_of-code.result.first c.statement_of-read.ensures.value one
    (c.code_of-code.ensures.one (rw c.in_default.is refl)) (c.in_ok-extend_from_slice.ensures.items ∙ ap (λ bs. old ++ bs) c.to_le_bytes.ensures)
