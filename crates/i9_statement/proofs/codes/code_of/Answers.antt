use Rattle.std.proofs.Common.{◌<◌, ◌^◌, rules}
use Rattle.std.proofs.lemmas.Nat.{or_lt}
use Rattle.std.proofs.lemmas.Option.{IfSome_then}
use Rattle.i9_statement.proofs.Marked.{marked}
use Rattle.i9_statement.proofs.codes.code_of.Goals as goal

pub returns-clause-one : goal.returns-clause-one
returns-clause-one c = λ none w1.
    let i = c.args.statement.now.inst in
    let bits = c.args.statement.now.spare in
    let w = c.encode-code.result.first in
    let low : w < 2 ^ 32 = search rules in
    let small : bits < 2 ^ 32 = search rules in
    marked i w w1 bits (c.encode-code.ensures.one none w1) c.encode-code.ensures.clear small (or_lt 32 w bits low small) c.requires.ignored

pub returns-clause-two : goal.returns-clause-two
returns-clause-two c =
    let i = c.args.statement.now.inst in
    let bits = c.args.statement.now.spare in
    let w = c.encode-code.result.first in
    let low : w < 2 ^ 32 = search rules in
    let small : bits < 2 ^ 32 = search rules in
    IfSome_then c.encode-code.result.second c.encode-code.ensures.two
    (λ w1 form. marked i w w1 bits form c.encode-code.ensures.clear small (or_lt 32 w bits low small) c.requires.ignored)
