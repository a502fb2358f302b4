use Rattle.std.proofs.Common.{rules}
use Rattle.i9_tool.proofs.Running.{runs_ranged, runs_unranged}
use Rattle.i9_tool.proofs.run.run.Goals as goal

pub returns-in-None : goal.returns-in-None
returns-in-None g c = runs_unranged _ _ _ _ _ _ _ c.in-None.is c.run_with.ensures (λ a answer h. search rules)

pub returns-in-Some : goal.returns-in-Some
returns-in-Some g c = runs_ranged _ _ _ _ _ c.in-Some.field-0 _ _ c.in-Some.is c.run_with-in-Some.ensures (λ a answer h. search rules)
