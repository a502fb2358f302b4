use Rattle.i9_tool.specs.Outcome.{as_hex}
use Rattle.i9_tool.proofs.source.hex_of.Goals as goal

pub returns-in-Ok : goal.returns-in-Ok
returns-in-Ok c = rw c.in-Ok.ensures.text (as_hex c.args.image.now)
