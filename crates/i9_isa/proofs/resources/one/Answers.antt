use Rattle.std.proofs.Common.{◌∙◌, sym, ◌&&◌, ap, eqb}
use Rattle.std.specs.Int.{from_bool}
use Rattle.i9_isa.proofs.Sets.{one_bit}
use Rattle.i9_isa.proofs.resources.one.Goals as goal

pub returns-then-used : goal.returns-then-used
returns-then-used c = λ k. one_bit c.args.resource k c.requires ∙ ap (λ b. from_bool (b && eqb k c.args.resource)) (sym c.if-used.true)
