use Rattle.i9_outside.specs.Counts.{Rose}
use Rattle.i9_tool.proofs.Wider.{gives_wider}
use Rattle.i9_tool.proofs.laws.where_none_rose.Goals as goal

pub returns-clause-none : goal.returns-clause-none
returns-clause-none c = λ told other before now asked code text found none g.
    gives_wider told other found (λ n. Rose (before n) (now n)) (λ n. ⊥) none asked code text g

pub returns-clause-some : goal.returns-clause-some
returns-clause-some c = λ told other before now first last asked code text found rises g.
    gives_wider told other found (λ n. Rose (before n) (now n)) (λ n. Rose (first n) (last n)) rises asked code text g
