-- Frames that are pushed and that come out of sets, and the room that memory has for them.
use Rattle.std.proofs.Common.{◌≡◌, ◌+◌, ◌<◌, List, [], ◌∷◌, ◌++◌, length, sym, ap, ◌∙◌, subst, arith}
use Rattle.i9_model.specs.declared.frame.Frame.{Frame}
use Rattle.i9_queue.specs.declared.behind.Behind.{Behind}
use Rattle.i9_queue.specs.Behind.{HasRoomIn, KeepsRoomIn}
use Rattle.i9_model.specs.Memory as model
use Rattle.i9_model.specs.Memory.{with_words}
use Rattle.i9_model.specs.Writes.{wrapped}
use Rattle.i9_model.specs.HeldFrames.{cache, over, overlaid, spilled}
use Rattle.i9_model.specs.declared.layout.TheConstants.{FRAME_SIZE}
use Rattle.i9_agree.proofs.Overlays.{overlaid_spilled}
use Rattle.i9_storage.specs.Kept.{HaveRoom}

head_of : (f g : Frame) (fs gs : List Frame) → f ∷ fs ≡ g ∷ gs → (f ≡ g) × (fs ≡ gs)
head_of f g fs gs e = (cc, cc)

-- the oldest frame that comes out was held before
oldest_held : (hs : List Frame) (f o : Frame) (rest : List Frame) → 0 < length hs → hs ++ f ∷ [] ≡ o ∷ rest → (older : List Frame) × (hs ≡ o ∷ older) × (rest ≡ older ++ f ∷ [])
oldest_held [] f o rest some e = absurd (omega arith)
oldest_held (h ∷ hs) f o rest some e = let both = head_of h o (hs ++ f ∷ []) rest e in (hs, ap (λ (g : Frame). g ∷ hs) both.0, sym both.1)

pub oldest_room : (m : Behind) (hs : List Frame) (f o : Frame) (rest : List Frame) → 0 < length hs → hs ++ f ∷ [] ≡ o ∷ rest → HaveRoom m hs → HasRoomIn m o.address FRAME_SIZE
oldest_room m hs f o rest some e room = grind (arith, oldest_held)

-- what there is room for stays so
pub kept_room : (m k : Behind) (fs : List Frame) → KeepsRoomIn m k → HaveRoom m fs → HaveRoom k fs
kept_room m k [] keeps room = tt
kept_room m k (f ∷ fs) keeps room = ((λ j h. keeps (wrapped (f.address + j)) (room.0 j h)), kept_room m k fs keeps room.1)

pub rest_room : (m k : Behind) (f : Frame) (fs hs : List Frame) → hs ≡ f ∷ fs → KeepsRoomIn m k → HaveRoom m hs → HaveRoom k fs
rest_room m k f fs hs e keeps room = let all : HaveRoom m (f ∷ fs) = subst (HaveRoom m) e room in kept_room m k fs keeps all.1

pub first_room : (m : Behind) (f : Frame) (fs hs : List Frame) → hs ≡ f ∷ fs → HaveRoom m hs → HasRoomIn m f.address FRAME_SIZE
first_room m f fs hs e room = let all : HaveRoom m (f ∷ fs) = subst (HaveRoom m) e room in all.0

pub spill_is : (hs fs : List Frame) (f : Frame) (m : model.Memory) → hs ≡ f ∷ fs → spilled hs m ≡ cache fs (with_words m f.address f.words)
spill_is hs fs f m e = ap (λ (gs : List Frame). spilled gs m) e

pub ruleset spill_rules = (rest_room, first_room, spill_is)

-- spills leave memory with the held frames laid over it, and a flush is one of each of them
pub spill_laid : (hs fs : List Frame) (m k : model.Memory) → cache fs k ≡ spilled hs m → over fs k ≡ over hs m
spill_laid hs fs m k e = ap overlaid e ∙ overlaid_spilled hs m

pub none_left : (hs : List Frame) (m k : model.Memory) → length hs ≡ 0 → over hs m ≡ k → cache hs m ≡ cache [] k
unfolding over
none_left [] m k none e = ap (cache []) e
none_left (h ∷ hs) m k none e = absurd (omega arith)

pub ruleset flush_rules = (spill_laid, none_left)
