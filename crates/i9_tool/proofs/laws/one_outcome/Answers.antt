use Rattle.std.proofs.Common.{◌≡◌, true}
use Rattle.i9_tool.proofs.Outcomes.{some_outcome}
use Rattle.i9_tool.proofs.OneOutcome.{one_outcome, same_in_sets, job_same_in_sets}
use Rattle.i9_tool.proofs.laws.one_outcome.Goals as goal

pub returns-clause-some : goal.returns-clause-some
returns-clause-some c = λ told asked. some_outcome told (λ n. ⊥) asked

pub returns-clause-status : goal.returns-clause-status
returns-clause-status c = λ told risen asked c d s t known p q g h. (one_outcome told (λ n. risen n ≡ true) asked known c d s t p q g h).status

pub returns-clause-text : goal.returns-clause-text
returns-clause-text c = λ told risen asked c d s t known p q g h. (one_outcome told (λ n. risen n ≡ true) asked known c d s t p q g h).text

pub returns-clause-sets : goal.returns-clause-sets
returns-clause-sets c = λ told risen. same_in_sets told (λ n. risen n ≡ true)

pub returns-clause-job_sets : goal.returns-clause-job_sets
returns-clause-job_sets c = λ told risen. job_same_in_sets told (λ n. risen n ≡ true)
