use Rattle.i9_course.proofs.NeedAgree.{next-need-agree}
use Rattle.i9_course.proofs.laws.agreeing_states_need_alike.Goals as goal

pub returns : goal.returns
returns c = next-need-agree
