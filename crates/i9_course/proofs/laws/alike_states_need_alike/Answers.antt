use Rattle.i9_course.proofs.NeedAlike.{need_alike, next_need_alike}
use Rattle.i9_course.proofs.laws.alike_states_need_alike.Goals as goal

pub returns-clause-kind : goal.returns-clause-kind
returns-clause-kind c = need_alike

pub returns-clause-next : goal.returns-clause-next
returns-clause-next c = next_need_alike
