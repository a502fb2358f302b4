use Rattle.std.proofs.Common.{None, sym, ◌∙◌, arith}
use Rattle.std.proofs.lemmas.Option.{same_Some}
use Rattle.i9_statement.proofs.RegisterSearch.{place_found, place_none}
use Rattle.i9_statement.proofs.registers.register_place.Goals as goal

pub returns-in_default-clause-place : goal.returns-in_default-clause-place
returns-in_default-clause-place c = sym (place_none c.args.text.now None (sym c.likely_place.ensures.place ∙ c.in_default.is) (λ k e. absurd (cc e)))

pub returns-then-eq-clause-place : goal.returns-then-eq-clause-place
returns-then-eq-clause-place c = grind (arith, place_found)

pub returns-else-eq-clause-place : goal.returns-else-eq-clause-place
returns-else-eq-clause-place c = grind (arith, place_none, same_Some)
