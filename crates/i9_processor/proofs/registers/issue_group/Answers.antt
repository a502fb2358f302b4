use Rattle.std.proofs.Common.{arith}
use Rattle.i9_model.specs.Writes.{pairs_at}
use Rattle.i9_processor.proofs.Issued.{group_set, group_past, issued_by}
use Rattle.i9_processor.proofs.registers.issue_group.Goals as goal

pub issue-requires-clause-set : goal.issue-requires-clause-set
issue-requires-clause-set c = grind (arith, group_set)

pub returns : goal.returns
returns c =
    let l = c.args.landing.now in
    let words = c.args.words.now in
    let left = issued_by c.args.file.now c.issue.new.self l.writes l.done c.args.flags.now c.args.ac
    (pairs_at (λ k. k) c.args.r words) (λ r past. group_past c.args.r r words (omega (arith, c.requires.range, past)))
    c.requires.sets c.requires.code c.issue.ensures in
    record { registers = left.registers; ac = left.controls; issued = left.issued }
