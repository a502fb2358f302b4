use Rattle.i9_agree.proofs.HeldRuns.{cached-after}
use Rattle.i9_agree.proofs.HeldWords.{held-in-memory}
use Rattle.i9_past.proofs.Heedful.{past_of_some}
use Rattle.i9_agree.proofs.laws.held_frames_stand_for_memory.Goals as goal

pub returns-clause-cached : goal.returns-clause-cached
returns-clause-cached c = λ g rs past. cached-after g rs (past_of_some g rs past)

pub returns-clause-words : goal.returns-clause-words
returns-clause-words c = λ g rs past. held-in-memory g rs (past_of_some g rs past)
