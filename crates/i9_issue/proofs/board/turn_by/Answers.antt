use Rattle.std.proofs.Common.{◌≡◌, ◌∙◌, max, take, reverse, ap, arith}
use Rattle.i9_issue.specs.Room.{side_from}
use Rattle.i9_issue.proofs.Early.{free-turn}
use Rattle.i9_issue.proofs.board.turn_by.Goals as goal

pub returns-then-until-free : goal.returns-then-until-free
returns-then-until-free c =
    let rs = reverse (take c.args.count c.args.records.now) in
    let free : c.max-free.result ≡ max c.args.from (side_from c.args.n.now rs) = c.max-free.ensures ∙ ap (max c.args.from) c.side_from.ensures in
    free ∙ free-turn c.args.n.now c.args.from c.args.until rs c.requires.time c.requires.done (omega (arith, c.if-until-free.true, free))
