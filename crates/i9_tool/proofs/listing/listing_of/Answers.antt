use Rattle.std.proofs.Common.{refl}
use Rattle.i9_tool.specs.Outcome.{listed}
use Rattle.i9_tool.proofs.listing.listing_of.Goals as goal

pub returns-in-Ok : goal.returns-in-Ok
returns-in-Ok c = listed c.args.image.now _ refl c.in-Ok.ensures.text
