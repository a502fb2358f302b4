use Rattle.std.proofs.Common.{sym, take, reverse}
use Rattle.i9_issue.proofs.Early.{each-done, open-none-back}
use Rattle.i9_issue.proofs.board.keep_open.Goals as goal

pub returns-then-until-turn-clause-kept : goal.returns-then-until-turn-clause-kept
returns-then-until-turn-clause-kept c =
    let rs = take c.args.count c.args.records.now in
    sym (open-none-back c.args.turn rs (each-done c.args.until c.args.turn (reverse rs) c.if-until-turn.true c.requires.done))
