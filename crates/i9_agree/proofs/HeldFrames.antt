-- The held frames are the youngest live ones, and laid over memory they stand for it, through each action.
use Rattle.std.proofs.Common.{◌≡◌, ℕ, ◌-◌, Bool, true, false, cond, ltb, List, [], ◌∷◌, ◌++◌, length, take, drop, None, refl, sym, ap, ◌∙◌, subst, inl, inr, arith, append_assoc, length-append}
use Rattle.std.proofs.Math.Seq.{take-append_seam}
use Rattle.std.proofs.lemmas.List.{take-append-drop}
use Rattle.std.specs.Prelude.{not, nat_le}
use Rattle.std.proofs.lemmas.Bool.{or_left, or_right, cases_Bool}
use Rattle.i9_model.specs.declared.layout.TheConstants.{LOCALS, FRAME_SIZE}
use Rattle.i9_model.specs.declared.frame.Frame.{Frame}
use Rattle.i9_model.specs.Writes.{address_count}
use Rattle.i9_model.specs.Memory.{Memory, with_writes}
use Rattle.i9_model.specs.State.{State, Frames}
use Rattle.i9_model.specs.Frames.{in_bytes, in_frames, is_put, returned}
use Rattle.i9_model.specs.Hazards.{writes_hazard}
use Rattle.i9_model.specs.Sound.{IsSound}
use Rattle.i9_model.specs.Step.{Move, Stays, Saves, Returns, Flushes, Action, memory_after, frames_after, moved}
use Rattle.i9_model.specs.Alike.{is_hard, is_compared, AgreeWhere}
use Rattle.i9_model.proofs.Among.{bytes-among, among-address}
use Rattle.i9_model.specs.HeldFrames.{Cache, frame_at, over, overlaid, spilled, with_room, cache_moved, cache_acted, youngest_first, AreWhole, AreYoungest}
use Rattle.i9_model.proofs.FrameLaws.{writes_hazard-none}
use Rattle.i9_model.specs.Free.{IsWhole}
use Rattle.i9_agree.proofs.Agreeing.{writes-same}
use Rattle.i9_agree.proofs.AgreeMoves.{writes-agree}
use Rattle.i9_agree.proofs.Overlays.{over_push, overlaid_holding, words_kept, AreBeside, over_stored, AreKept, over_kept}

-- ---- the youngest live frames are held

youngest_long : (hs : List Frame) → length (youngest_first hs) ≡ length hs
youngest_long [] = refl
youngest_long (h ∷ hs) = omega (arith, length-append (youngest_first hs) (h.address ∷ []), youngest_long hs)

-- the live frames that are not held
abbrev pub older_than : List Frame → List ℕ → List ℕ
older_than hs live = drop (length hs) live

pub all_live : (hs : List Frame) (live : List ℕ) → AreYoungest hs live → live ≡ youngest_first hs ++ older_than hs live
all_live hs live y = sym (take-append-drop (length hs) live) ∙ sym (ap (λ (xs : List ℕ). xs ++ older_than hs live) y.first)

pub youngest_by : (hs : List Frame) (older live : List ℕ) → live ≡ youngest_first hs ++ older → AreWhole hs → AreYoungest hs live
youngest_by hs older live all whole = grind (arith, youngest_long, take-append_seam)

youngest_push : (hs : List Frame) (f : Frame) → youngest_first (hs ++ f ∷ []) ≡ f.address ∷ youngest_first hs
youngest_push [] f = refl
youngest_push (h ∷ hs) f = rw (youngest_push hs f) refl

whole_push : (hs : List Frame) (f : Frame) → AreWhole hs → length f.words ≡ LOCALS → AreWhole (hs ++ f ∷ [])
whole_push [] f whole long = (long, tt)
whole_push (h ∷ hs) f whole long = (whole.0, whole_push hs f whole.1 long)

spill_keeps : (hs : List Frame) (m : Memory) (live : List ℕ) → AreYoungest hs live → AreYoungest (spilled hs m).held live
spill_keeps [] m live y = y
spill_keeps (h ∷ hs) m live y = youngest_by hs (h.address ∷ older_than (h ∷ hs) live) live (all_live (h ∷ hs) live y ∙ append_assoc (youngest_first hs) (h.address ∷ []) (older_than (h ∷ hs) live)) y.whole.1

room_keeps : (b : Bool) (c : Cache) (live : List ℕ) → AreYoungest c.held live → AreYoungest (cond b c (spilled c.held c.behind)).held live
room_keeps b c live y = grind (arith, spill_keeps)

push_keeps : (hs : List Frame) (f : Frame) (live : List ℕ) → length f.words ≡ LOCALS → AreYoungest hs live → AreYoungest (hs ++ f ∷ []) (f.address ∷ live)
push_keeps hs f live long y =
    let older = older_than hs live in
    youngest_by (hs ++ f ∷ []) older (f.address ∷ live)
    (ap (λ (xs : List ℕ). f.address ∷ xs) (all_live hs live y) ∙ sym (ap (λ (xs : List ℕ). xs ++ older) (youngest_push hs f)))
    (whole_push hs f y.whole long)

-- the youngest of some frames
pub split_last : (h : Frame) (hs : List Frame) → (y : Frame) × (h ∷ hs ≡ take (length (h ∷ hs) - 1) (h ∷ hs) ++ y ∷ [])
split_last h hs =
    let count : length (h ∷ hs) - 1 ≡ length hs = omega arith in
    let s = by_count h hs in
    (s.0, s.1 ∙ ap (λ (n : ℕ). take n (h ∷ hs) ++ s.0 ∷ []) (sym count))
  where
    by_count : (h : Frame) (hs : List Frame) → (y : Frame) × (h ∷ hs ≡ take (length hs) (h ∷ hs) ++ y ∷ [])
    by_count h [] = (h, refl)
    by_count h (g ∷ hs) = let s = by_count g hs in (s.0, ap (λ (xs : List Frame). h ∷ xs) s.1)

whole_front : (hs : List Frame) (f : Frame) → AreWhole (hs ++ f ∷ []) → AreWhole hs × (length f.words ≡ LOCALS)
whole_front [] f whole = (tt, whole.0)
whole_front (h ∷ hs) f whole = let r = whole_front hs f whole.1 in ((whole.0, r.0), r.1)

-- the youngest frame is the first live one, and the others are the youngest of the others
pub first_is : (hs : List Frame) (f : Frame) (live : List ℕ) → AreYoungest (hs ++ f ∷ []) live → (rest : List ℕ) × (live ≡ f.address ∷ rest) × AreYoungest hs rest
first_is hs f live y =
    let older = older_than (hs ++ f ∷ []) live in
    (youngest_first hs ++ older, all_live (hs ++ f ∷ []) live y ∙ ap (λ (xs : List ℕ). xs ++ older) (youngest_push hs f), youngest_by hs older (youngest_first hs ++ older) refl (whole_front hs f y.whole).0)

pub return_keeps : (hs : List Frame) (live : List ℕ) → AreYoungest hs live → AreYoungest (take (length hs - 1) hs) (drop 1 live)
return_keeps [] live y = record { first = refl; whole = tt }
return_keeps (h ∷ hs) live y =
    let s = split_last h hs in
    let front = take (length (h ∷ hs) - 1) (h ∷ hs) in
    let f = first_is front s.0 live (subst (λ (xs : List Frame). AreYoungest xs live) s.1 y) in
    subst (AreYoungest front) (sym (ap (drop 1) f.1)) f.2

pub move_keeps : (n : ℕ) (v : Move) (c : Cache) (f : Frames) → IsWhole v → AreYoungest c.held f.live → AreYoungest (cache_moved n v c).held (frames_after f v).live
move_keeps n Stays c f whole y = y
move_keeps n (Saves save words) c f whole y = push_keeps (with_room n c).held (frame_at save words) f.live whole (room_keeps (ltb (length c.held) n) c f.live y)
move_keeps n Returns c f whole y = return_keeps c.held f.live y
move_keeps n Flushes c f whole y = record { first = refl; whole = tt }

-- ---- bytes of held frames are live

pub later_live : (fs gs : List ℕ) (x : ℕ) → in_frames gs x ≡ true → in_frames (fs ++ gs) x ≡ true
later_live [] gs x t = t
later_live (f ∷ fs) gs x t = or_right (in_bytes f FRAME_SIZE x) (in_frames (fs ++ gs) x) (later_live fs gs x t)

not_in : (a : ℕ) (fs older : List ℕ) (x : ℕ) → in_frames (fs ++ (a ∷ older)) x ≡ false → in_bytes a FRAME_SIZE x ≡ false
not_in a fs older x out = let live = later_live fs (a ∷ older) x in grind arith

-- writes that are in none of these frames are in none that is held
all_beside : (ps : List (ℕ × ℕ)) (hs : List Frame) (older : List ℕ) → ((x : ℕ) → is_put ps x ≡ true → in_frames (youngest_first hs ++ older) x ≡ false) → AreBeside ps hs
all_beside ps [] older free = tt
all_beside ps (h ∷ hs) older free =
    let order : youngest_first (h ∷ hs) ++ older ≡ youngest_first hs ++ (h.address ∷ older) = append_assoc (youngest_first hs) (h.address ∷ []) older in
    let rest : (x : ℕ) → is_put ps x ≡ true → in_frames (youngest_first hs ++ (h.address ∷ older)) x ≡ false = rw order at free in (
      (λ x t. not_in h.address (youngest_first hs) older x (rest x t)),
      all_beside ps hs (h.address ∷ older) rest,
    )

-- writes without a hazard are beside every held frame
pub write_beside : (f : Frames) (ps : List (ℕ × ℕ)) (hs : List Frame) → AreYoungest hs f.live → writes_hazard f ps ≡ None → AreBeside ps hs
write_beside f ps hs y none = all_beside ps hs (older_than hs f.live) (λ x t. rw (all_live hs f.live y) at (writes_hazard-none f ps x none t))

-- ---- a frame that is returned to leaves the overlay

pub below_all : (a n x : ℕ) → in_bytes a n x ≡ true → nat_le address_count x ≡ false
below_all a n x t = among-address a n x (bytes-among a n x t)

-- no byte of it is compared any more
left_uncompared : (f : Frames) (y x : ℕ) (rest : List ℕ) → f.live ≡ y ∷ rest → IsSound f → in_bytes y FRAME_SIZE x ≡ true → is_compared (returned f) x ≡ false
left_uncompared f y x rest is sound t = grind (arith, or_left, below_all)

pub taken_alike : (hs : List Frame) (m : Memory) (f : Frames) → IsSound f → AreYoungest hs f.live → AgreeWhere (is_compared (returned f)) (over hs m) (over (take (length hs - 1) hs) m).bytes
taken_alike [] m f sound y = λ x h. refl
taken_alike (h ∷ hs) m f sound y = λ x compared.
    let s = split_last h hs in
    let front = take (length (h ∷ hs) - 1) (h ∷ hs) in
    let youngest = subst (λ (xs : List Frame). AreYoungest xs f.live) s.1 y in
    let first = first_is front s.0 f.live youngest in
    let left = left_uncompared f s.0.address x first.0 first.1 sound in
    let beside : in_bytes s.0.address FRAME_SIZE x ≡ false = grind arith in
    sym (ap (λ (xs : List Frame). (over xs m).bytes x) s.1
    ∙ ap (λ (k : Memory). k.bytes x) (over_push front s.0 m)
    ∙ words_kept (over front m) s.0.address s.0.words x (whole_front front s.0 youngest.whole).1 (inl beside))

-- ---- an action

pub move_stands : (n : ℕ) (v : Move) (c : Cache) (f : Frames) → IsSound f → AreYoungest c.held f.live → AgreeWhere (is_compared (frames_after f v)) (memory_after (overlaid c) v) (overlaid (cache_moved n v c)).bytes
unfolding over
move_stands n v c f sound y = grind (arith, overlaid_holding, taken_alike)

-- what is held and what is behind after an action, laid over one another, is memory after it, as far as that is
-- compared
pub acted_stands : (n : ℕ) (s : State) (a : Action) (c : Cache) → s.memory ≡ overlaid c → IsSound s.frames → AreYoungest c.held s.frames.live → IsWhole a.move → writes_hazard (frames_after s.frames a.move) a.writes ≡ None
    → AgreeWhere (is_compared (moved s a).frames) (moved s a).memory (overlaid (cache_acted n a c)).bytes
unfolding moved
acted_stands n s a c is sound y whole free = λ x h.
    let d = cache_moved n a.move c in
    let f = frames_after s.frames a.move in
    let still = move_keeps n a.move c s.frames whole y in
    let m = memory_after (overlaid c) a.move in
    ap (λ (k : Memory). k.bytes x) (over_stored d.held d.behind a.writes still.whole (write_beside f a.writes d.held still free))
    ∙ writes-agree false f m (overlaid d).bytes a.writes a.writes a.stale (λ e. absurd cc) (writes-same false a.stale a.writes) (move_stands n a.move c s.frames sound y) x h
    ∙ sym (ap (λ (k : Memory). (with_writes (memory_after k a.move) a.writes).bytes x) is)

-- ---- the memory behind

-- a byte that is in no live frame is in none that is held
pub all_kept : (x : ℕ) (hs : List Frame) (older : List ℕ) → in_frames (youngest_first hs ++ older) x ≡ false → AreKept x hs
all_kept x [] older free = tt
all_kept x (h ∷ hs) older free =
    let order : youngest_first (h ∷ hs) ++ older ≡ youngest_first hs ++ (h.address ∷ older) = append_assoc (youngest_first hs) (h.address ∷ []) older in
    let rest : in_frames (youngest_first hs ++ (h.address ∷ older)) x ≡ false = rw order at free in
    (inl (not_in h.address (youngest_first hs) older x rest), all_kept x hs (h.address ∷ older) rest)

-- a hard byte is in no live frame
hard_outside : (f : Frames) (x : ℕ) → IsSound f → is_hard f x ≡ true → in_frames f.live x ≡ false
hard_outside f x sound h = elim (cases_Bool (in_frames f.live x)) [
  | inr out ↦ out
  | inl live ↦ absurd (cc (rw (sound.outside x live, below_live f.live x live, sound.soft x live) at h))
]
  where
    below_live : (live : List ℕ) (x : ℕ) → in_frames live x ≡ true → nat_le address_count x ≡ false
    below_live [] x t = absurd cc
    below_live (g ∷ live) x t = elim (cases_Bool (in_bytes g FRAME_SIZE x)) [
      | inl here ↦ below_all g FRAME_SIZE x here
      | inr other ↦ below_live live x (rw other at t)
    ]

-- what may be read without a hazard is in the memory behind the frames
pub hard_behind : (c : Cache) (f : Frames) → IsSound f → AreYoungest c.held f.live → AgreeWhere (is_hard f) c.behind (overlaid c).bytes
hard_behind c f sound y = λ x h.
    over_kept c.held c.behind x y.whole (all_kept x c.held (older_than c.held f.live) (sym (ap (λ (l : List ℕ). in_frames l x) (all_live c.held f.live y)) ∙ hard_outside f x sound h))
