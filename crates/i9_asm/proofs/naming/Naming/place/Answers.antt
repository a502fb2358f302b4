use Rattle.std.proofs.Common.{ap}
use Rattle.i9_statement.proofs.KnownNames.{known-all}
use Rattle.i9_asm.proofs.naming.Naming.place.Goals as goal

pub returns : goal.returns
returns c = ap (λ known. record { location = c.args.self.now.location; known = known }) (known-all _)
