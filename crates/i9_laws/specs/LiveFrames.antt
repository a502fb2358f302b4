-- The frames that are live after the records of a run, with the words that their saves wrote.
use Rattle.std.specs.Prelude.{◌≡◌, ℕ, List, [], ◌∷◌, drop, map}
use Rattle.std.specs.List.{AllByRecursion}
use Rattle.i9_model.specs.declared.layout.TheConstants.{LOCALS}
use Rattle.i9_model.specs.declared.frame.Frame.{Frame}
use Rattle.i9_model.specs.Memory.{Memory, words_in}
use Rattle.i9_model.specs.Step.{Move, Stays, Saves, Returns, Flushes}
use Rattle.i9_model.specs.Run.{Record, action_done}
use Rattle.i9_model.specs.HeldFrames.{frame_at}

-- a save puts a frame in front, a return drops the first, and a flush all
abbrev pub live_moved : Move → List Frame → List Frame
live_moved Stays live = live
live_moved (Saves save words) live = frame_at save words ∷ live
live_moved Returns live = drop 1 live
live_moved Flushes live = []

-- the frames that are live after the records, youngest first
abbrev pub live_after : List Record → List Frame
live_after [] = []
live_after (r ∷ rs) = live_moved (action_done r).move (live_after rs)

-- their addresses
abbrev pub addresses_of : List Frame → List ℕ
addresses_of live = map (λ f. f.address) live

-- memory has at each frame's address the frame's words
abbrev pub AreSaved : Memory → List Frame → Type 0
AreSaved m live = AllByRecursion (λ f. words_in m f.address LOCALS ≡ f.words) live
