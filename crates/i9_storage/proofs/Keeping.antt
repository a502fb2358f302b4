-- What storage keeps true of its memory, its frames and its sets.
use Rattle.std.proofs.Common.{◌≡◌, ℕ, ◌-◌, Bool, true, false, cond, ltb, zero, suc, List, [], ◌∷◌, ◌++◌, length, take, None, sym, ap, ◌∙◌, subst, arith}
use Rattle.i9_model.specs.declared.layout.TheConstants.{LOCALS, FRAME_SIZE, RIP}
use Rattle.i9_model.specs.declared.frame.Frame.{Frame}
use Rattle.i9_model.specs.Memory as model
use Rattle.i9_model.specs.Memory.{with_writes, with_words}
use Rattle.i9_model.specs.State.{Frames}
use Rattle.i9_isa.specs.Words.{bit}
use Rattle.i9_model.specs.Frames.{no_frames, saved, with_marked, returned, wrote, wrote_run, softened}
use Rattle.i9_model.specs.Stale.{picked, byte_marks}
use Rattle.i9_model.specs.Writes.{wrapped, upwards}
use Rattle.i9_model.specs.Hazards.{write_hazard, writes_hazard, save_hazard}
use Rattle.i9_model.specs.Sound.{IsSound}
use Rattle.i9_model.specs.Step.{Saves}
use Rattle.i9_model.specs.Alike.{is_compared, AgreeWhere}
use Rattle.i9_model.specs.HeldFrames.{Cache, over, overlaid, spilled, with_room, holding, taken, written_back, AreYoungest}
use Rattle.i9_model.proofs.FrameLaws.{sound-returned, sound-wrote, sound-softened}
use Rattle.i9_model.proofs.Runs.{writes_hazard-upwards, wrote-upwards}
use Rattle.i9_agree.proofs.Overlays.{overlaid_holding, over_stored}
use Rattle.i9_agree.proofs.HeldFrames.{write_beside, return_keeps, move_keeps, taken_alike}
use Rattle.i9_queue.specs.declared.behind.Behind.{Behind}
use Rattle.i9_queue.specs.Behind.{settled, HasRoomIn, KeepsRoomIn}
use Rattle.i9_watch.specs.declared.watch.Watch.{Watch}
use Rattle.i9_watch.specs.Watch.{frames_of}
use Rattle.i9_frames.specs.Sets.{Held, held}
use Rattle.i9_storage.specs.Kept.{cache_in, HaveRoom, IsKept}
use Rattle.i9_watch.specs.Bits.{bits_of}
use Rattle.i9_storage.proofs.HeldRooms.{kept_room}
use Rattle.i9_storage.proofs.Saves.{sound-save}

-- frames after a step are kept, from what holds of them
kept_by : (m k : Behind) (w v : Watch) (h g : Held) (f : Frames) → frames_of v ≡ f → IsSound f → AreYoungest g.frames f.live → HaveRoom k g.frames → IsKept k v g
kept_by m k w v h g f is sound youngest room = grind arith

-- ---- at first

pub kept_new : (m : Behind) (w : Watch) (h : Held) → frames_of w ≡ no_frames → h.frames ≡ [] → IsKept m w h
kept_new m w h is none = grind arith

-- ---- a copy

pub kept_copy : (m k : Behind) (w v : Watch) (h g : Held) → IsKept m w h → KeepsRoomIn m k → frames_of v ≡ frames_of w → g ≡ h → IsKept k v g
kept_copy m k w v h g kept keeps is same = grind (arith, kept_room)

-- ---- stores

pub kept_store : (m k : Behind) (w v : Watch) (h : Held) (ps : List (ℕ × ℕ)) (stale : List ℕ) → IsKept m w h → KeepsRoomIn m k → frames_of v ≡ softened (wrote (frames_of w) ps) stale → writes_hazard (frames_of w) ps ≡ None → IsKept k v h
kept_store m k w v h ps stale kept keeps is free = grind (arith, sound-softened, sound-wrote, kept_room)

pub store_laid : (m k : Behind) (w : Watch) (h : Held) (ps : List (ℕ × ℕ)) → IsKept m w h → writes_hazard (frames_of w) ps ≡ None → settled k ≡ with_writes (settled m) ps → overlaid (cache_in k h) ≡ with_writes (overlaid (cache_in m h)) ps
store_laid m k w h ps kept free is = grind (arith, over_stored, write_beside)

-- a run of bytes that meets no live frame is writes that meet none
pub run_free : (f : Frames) (a : ℕ) (bs : List ℕ) → write_hazard f a (length bs) ≡ None → writes_hazard f (upwards a bs) ≡ None
run_free f a bs none = writes_hazard-upwards f a bs ∙ none

pub ruleset run_rules = (run_free)

-- a run of bytes that is marked is writes that are
pub run_wrote : (f g : Frames) (a : ℕ) (bs stale : List ℕ) → g ≡ softened (wrote_run f a (length bs)) stale → g ≡ softened (wrote f (upwards a bs)) stale
run_wrote f g a bs stale is = is ∙ ap (λ (x : Frames). softened x stale) (sym (wrote-upwards f a bs))

-- ---- saves

room_push : (m : Behind) (hs : List Frame) (f : Frame) → HaveRoom m hs → HasRoomIn m f.address FRAME_SIZE → HaveRoom m (hs ++ f ∷ [])
room_push m [] f all room = (room, tt)
room_push m (h ∷ hs) f all room = (all.0, room_push m hs f all.1 room)

room_by : (m : Behind) (t : Bool) (c : Cache) → HaveRoom m c.held → HaveRoom m (cond t c (spilled c.held c.behind)).held
room_by m t c all = grind arith

pub kept_save : (m k : Behind) (w v : Watch) (h g : Held) (f : Frame) (marks : ℕ) → IsKept m w h → KeepsRoomIn m k → frames_of v ≡ with_marked (saved (frames_of w) f.address) (picked wrapped f.address (byte_marks (bits_of marks 16))) → bit marks RIP ≡ false → save_hazard (frames_of w) f.address ≡ None
    → cache_in k g ≡ holding h.size f (cache_in m h) → length f.words ≡ LOCALS → HasRoomIn m f.address FRAME_SIZE → IsKept k v g
kept_save m k w v h g f marks kept keeps is known free held whole room =
    let c = cache_in m h in
    let frames : g.frames ≡ (holding h.size f c).held = ap (λ (d : Cache). d.held) held in
    let all = kept_room m k (holding h.size f c).held keeps (room_push m (with_room h.size c).held f (room_by m (ltb (length h.frames) h.size) c kept.room) room) in
    kept_by m k w v h g (with_marked (saved (frames_of w) f.address) (picked wrapped f.address (byte_marks (bits_of marks 16)))) is (sound-save (frames_of w) marks f.address f.words kept.sound free known)
    (subst (λ (fs : List Frame). AreYoungest fs (f.address ∷ (frames_of w).live)) (sym frames) (move_keeps h.size (Saves f.address f.words) c (frames_of w) whole kept.youngest))
    (subst (HaveRoom k) (sym frames) all)

pub save_laid : (n : ℕ) (f : Frame) (c d : Cache) → d ≡ holding n f c → overlaid d ≡ with_words (overlaid c) f.address f.words
save_laid n f c d e = ap overlaid e ∙ overlaid_holding n f c

-- ---- returns

room_take : (m : Behind) (n : ℕ) (hs : List Frame) → HaveRoom m hs → HaveRoom m (take n hs)
room_take m zero hs all = tt
room_take m (suc n) [] all = tt
room_take m (suc n) (h ∷ hs) all = (all.0, room_take m n hs all.1)

pub kept_return : (m : Behind) (w v : Watch) (h g : Held) → IsKept m w h → frames_of v ≡ returned (frames_of w) → g ≡ held h.size (take (length h.frames - 1) h.frames) → IsKept m v g
kept_return m w v h g kept is taken =
    let left = take (length h.frames - 1) h.frames in
    let here : IsKept m v (held h.size left) =
    kept_by m m w v h (held h.size left) (returned (frames_of w)) is (sound-returned (frames_of w) kept.sound) (return_keeps h.frames (frames_of w).live kept.youngest)
    (room_take m (length h.frames - 1) h.frames kept.room) in
    subst (IsKept m v) (sym taken) here

pub return_laid : (m : Behind) (w : Watch) (h g : Held) → IsKept m w h → g ≡ held h.size (take (length h.frames - 1) h.frames) → AgreeWhere (is_compared (returned (frames_of w))) (overlaid (cache_in m h)) (overlaid (cache_in m g)).bytes
return_laid m w h g kept is = grind (arith, taken_alike)

-- ---- flushes

pub flush_laid : (c d : Cache) → d ≡ written_back c → overlaid d ≡ overlaid c
unfolding over
flush_laid c d e = ap overlaid e

-- ---- room

pub kept_reserve : (m k : Behind) (w v : Watch) (h : Held) → IsKept m w h → KeepsRoomIn m k → frames_of v ≡ frames_of w → IsKept k v h
kept_reserve m k w v h kept keeps is = kept_by m k w v h h (frames_of w) is kept.sound kept.youngest (kept_room m k h.frames keeps kept.room)
