use Rattle.std.proofs.Common.{arith}
use Rattle.i9_model.proofs.FrameLaws.{sound-none, sound-saved, sound-returned, sound-flushed, sound-wrote}
use Rattle.i9_agree.proofs.SoundRuns.{sound-after}
use Rattle.i9_past.proofs.Heedful.{past_of_some}
use Rattle.i9_agree.proofs.laws.frames_stay_sound.Goals as goal

pub returns : goal.returns
returns c =
    grind (arith, sound-none, sound-saved, sound-returned, sound-flushed, sound-wrote, sound-after, past_of_some)
