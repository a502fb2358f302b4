-- What is known of every storage.
use Rattle.i9_model.specs.Sound.{IsSound}
use Rattle.i9_model.specs.HeldFrames.{AreYoungest}
use Rattle.i9_storage.specs.declared.storage.Storage.{Storage}
use Rattle.i9_storage.specs.Storage.{cache_of, frames_in}

-- its frames are sound
pub frames_sound : (s : Storage) → IsSound (frames_in s)
frames_sound s = s.kept.sound

-- the held frames are the youngest live ones
pub held_youngest : (s : Storage) → AreYoungest (cache_of s).held (frames_in s).live
held_youngest s = s.kept.youngest
