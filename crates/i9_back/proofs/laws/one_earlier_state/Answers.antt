use Rattle.i9_back.proofs.Earlier.{one_earlier, has_earlier, earlier_count, earlier_part}
use Rattle.i9_back.proofs.laws.one_earlier_state.Goals as goal

pub returns : goal.returns
returns c = record { one = one_earlier; some = has_earlier; count = λ g n rs is. earlier_count g n rs is.last; part = earlier_part }
