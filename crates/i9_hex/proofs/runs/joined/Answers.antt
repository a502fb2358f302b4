use Rattle.i9_hex.proofs.Joining.{joined_end}
use Rattle.i9_hex.proofs.runs.joined.Goals as goal

pub returns : goal.returns
returns c = joined_end c.args.pairs.now c.loop-rest.rest.now c.loop-rest.runs c.requires.placed c.requires.order c.in_default.len_below c.loop-rest.invariant
