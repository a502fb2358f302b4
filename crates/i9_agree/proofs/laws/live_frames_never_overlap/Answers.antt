use Rattle.i9_model.proofs.FrameLaws.{apart-saved, apart-returned}
use Rattle.i9_agree.proofs.laws.live_frames_never_overlap.Goals as goal

pub returns-clause-saved : goal.returns-clause-saved
returns-clause-saved c = apart-saved

pub returns-clause-returned : goal.returns-clause-returned
returns-clause-returned c = apart-returned
