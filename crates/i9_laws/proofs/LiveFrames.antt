-- Where there are enough sets nothing is spilled, so the frames that are held are the live ones, with the words of their saves.
use Rattle.std.proofs.Common.{◌≡◌, ℕ, ◌+◌, ◌-◌, ◌*◌, ◌<◌, ◌≤◌, Bool, true, cond, ltb, List, [], ◌∷◌, ◌++◌, length, take, drop, Some, refl, sym, ap, ◌∙◌, subst, arith, length-append}
use Rattle.std.proofs.Math.Seq.{take-append_seam}
use Rattle.std.proofs.lemmas.Bool.Decides.{nat_tests}
use Rattle.std.specs.List.{AllByRecursion}
use Rattle.std.proofs.lemmas.List.FromFn.{fill_by_all}
use Rattle.i9_model.specs.declared.layout.TheConstants.{LOCALS}
use Rattle.i9_model.specs.declared.frame.Frame.{Frame}
use Rattle.i9_model.specs.Writes.{wrapped}
use Rattle.i9_model.specs.Memory.{Memory, word_in}
use Rattle.i9_model.specs.State.{State, Frames, started, boot}
use Rattle.i9_model.specs.Step.{Move, Stays, Saves, Returns, Flushes, frames_after, moved}
use Rattle.i9_model.specs.Run.{Given, Record, Does, record_of, action_by_kind, due_after, action_done, event_after, state_after, next, IsPast}
use Rattle.i9_model.specs.ScheduleText.{IsPlan}
use Rattle.i9_model.specs.HeldFrames.{Cache, frame_at, spilled, cache_moved, cache_after, AreInMemory}
use Rattle.i9_model.proofs.ControlLaws.{acted-frames}
use Rattle.i9_past.proofs.Comes.{next_comes}
use Rattle.i9_past.proofs.Cuts.{past_by}
use Rattle.i9_past.proofs.Heedful.{past_of_some}
use Rattle.i9_agree.proofs.HeldWords.{held-in-memory}
use Rattle.i9_laws.specs.Kept.{IsWord, HasBytes}
use Rattle.i9_laws.specs.LiveFrames.{live_moved, live_after, addresses_of, AreSaved}
use Rattle.i9_laws.proofs.ResultWords.{AreWords, item_word}
use Rattle.i9_laws.proofs.WordsAfter.{SavesWords, saved_after}

-- ---- their addresses

moved_addresses : (v : Move) (f : Frames) (live : List Frame) → f.live ≡ addresses_of live
    → (frames_after f v).live ≡ addresses_of (live_moved v live)
moved_addresses Stays f live e = e
moved_addresses (Saves save words) f live e = ap (λ (xs : List ℕ). save ∷ xs) e
moved_addresses Returns f [] e = ap (drop 1) e
moved_addresses Returns f (x ∷ live) e = ap (drop 1) e
moved_addresses Flushes f live e = refl

pub live_addresses : (g : Given) (rs : List Record) → IsPast g rs → (state_after g rs).frames.live ≡ addresses_of (live_after rs)
unfolding boot started moved
live_addresses g [] past = refl
live_addresses g (r ∷ rs) past =
    let s = state_after g rs in
    let a = action_by_kind r.kind s in
    let is = (next_comes g.length (due_after rs) (event_after g rs) s r past.1).0 in
    ap (λ (q : Record). q.after.frames.live) is
    ∙ ap (λ (f : Frames). f.live) (acted-frames s a)
    ∙ moved_addresses a.move s.frames (live_after rs) (live_addresses g rs past.0)
    ∙ sym (ap (λ (q : Record). addresses_of (live_moved (action_done q).move (live_after rs))) is)

-- ---- their words

-- the frames, oldest first
abbrev oldest_first : List Frame → List Frame
oldest_first [] = []
oldest_first (f ∷ fs) = oldest_first fs ++ f ∷ []

as_many : (live : List Frame) → length (oldest_first live) ≡ length live
as_many [] = refl
as_many (f ∷ live) = omega (arith, length-append (oldest_first live) (f ∷ []), as_many live)

-- the youngest is taken
without_last : (fs : List Frame) (f : Frame) → take (length (fs ++ f ∷ []) - 1) (fs ++ f ∷ []) ≡ fs
without_last fs f =
    let count : length (fs ++ f ∷ []) - 1 ≡ length fs = omega (arith, length-append fs (f ∷ [])) in
    ap (λ (n : ℕ). take n (fs ++ f ∷ [])) count ∙ take-append_seam fs (f ∷ [])

moved_held : (n : ℕ) (v : Move) (c : Cache) (live : List Frame) → length live < n → c.held ≡ oldest_first live
    → (cache_moved n v c).held ≡ oldest_first (live_moved v live)
moved_held n Stays c live few e = e
moved_held n (Saves save words) c live few e =
    let room : ltb (length c.held) n ≡ true = grind (arith, nat_tests, few, ap length e, as_many live) in
    ap (λ (b : Bool). (cond b c (spilled c.held c.behind)).held ++ frame_at save words ∷ []) room
    ∙ ap (λ (fs : List Frame). fs ++ frame_at save words ∷ []) e
moved_held n Returns c [] few e = ap (λ (fs : List Frame). take (length fs - 1) fs) e
moved_held n Returns c (f ∷ live) few e = ap (λ (fs : List Frame). take (length fs - 1) fs) e ∙ without_last (oldest_first live) f
moved_held n Flushes c live few e = refl

-- no more frames are live than there are records
move_adds : (v : Move) (live : List Frame) → length (live_moved v live) ≤ length live + 1
move_adds Returns [] = omega arith
move_adds Returns (f ∷ live) = omega arith
move_adds _ live = omega arith

few_live : (rs : List Record) → length (live_after rs) ≤ length rs
few_live [] = omega arith
few_live (r ∷ rs) = omega (arith, move_adds (action_done r).move (live_after rs), few_live rs)

-- the same with so many sets
abbrev in_sets : Given → ℕ → Given
in_sets g n = record g { sets = Some n }

held_live : (g : Given) (n : ℕ) (rs : List Record) → length rs < n → (cache_after (in_sets g n) rs).held ≡ oldest_first (live_after rs)
held_live g n [] few = refl
held_live g n (r ∷ rs) few =
    let held = held_live g n rs (omega (arith, few)) in
    moved_held n (action_done r).move (cache_after (in_sets g n) rs) (live_after rs) (omega (arith, few, few_live rs)) held

past_in_sets : (g : Given) (n : ℕ) (rs : List Record) → IsPast g rs → IsPast (in_sets g n) rs
past_in_sets g n rs past = past_by g (in_sets g n) same rs past
  where
    same : (qs : List Record) (r : Record) → IsPast g qs → next g qs ≡ Does r → next (in_sets g n) qs ≡ Does r
    same [] r before e = e
    same (q ∷ qs) r before e = e

front_in_memory : (m : Memory) (fs : List Frame) (f : Frame) → AreInMemory m (fs ++ f ∷ []) → AreInMemory m (f ∷ fs)
front_in_memory m [] f all = all
front_in_memory m (h ∷ fs) f all = let rest = front_in_memory m fs f all.1 in (rest.0, (all.0, rest.1))

youngest_in_memory : (m : Memory) (live : List Frame) → AreInMemory m (oldest_first live) → AreInMemory m live
youngest_in_memory m [] all = tt
youngest_in_memory m (f ∷ live) all = let both = front_in_memory m (oldest_first live) f all in (both.0, youngest_in_memory m live both.1)

pub live_in_memory : (g : Given) (rs : List Record) → IsPast g rs → AreInMemory (state_after g rs).memory (live_after rs)
live_in_memory g rs past =
    let n = length rs + 1 in
    let k = in_sets g n in
    let held = held-in-memory k rs (past_of_some k rs (past_in_sets g n rs past)) in
    youngest_in_memory (state_after g rs).memory (live_after rs)
    (subst (λ (s : State). AreInMemory s.memory (oldest_first (live_after rs))) (same_state rs)
    (subst (AreInMemory (state_after k rs).memory) (held_live g n rs (omega arith)) held))
  where
    same_state : (qs : List Record) → state_after (in_sets g (length rs + 1)) qs ≡ state_after g qs
    same_state [] = refl
    same_state (q ∷ qs) = refl

-- ---- where the bytes of the image have 8 bits, and the plan is one of a schedule

abbrev IsFrame : Frame → Type 0
IsFrame f = IsWord f.address × (length f.words ≡ LOCALS) × AreWords f.words

abbrev AreFrames : List Frame → Type 0
AreFrames live = AllByRecursion IsFrame live

moved_frames : (v : Move) (live : List Frame) → SavesWords v → AreFrames live → AreFrames (live_moved v live)
moved_frames Stays live h all = all
moved_frames (Saves save words) live h all = (h, all)
moved_frames Returns [] h all = tt
moved_frames Returns (f ∷ live) h all = all.1
moved_frames Flushes live h all = tt

live_frames : (g : Given) (rs : List Record) → HasBytes g.image → IsPlan g.plan → IsPast g rs → AreFrames (live_after rs)
live_frames g [] image plan past = tt
live_frames g (r ∷ rs) image plan past =
    moved_frames (action_done r).move (live_after rs) (saved_after g r rs image plan past) (live_frames g rs image plan past.0)

all_saved : (m : Memory) (live : List Frame) → AreFrames live → AreInMemory m live → AreSaved m live
all_saved m [] all stand = tt
all_saved m (f ∷ live) all stand =
    let word = λ (k : ℕ). word_in m (wrapped (f.address + 4 * k)) in
    let same = fill_by_all word f.words LOCALS 0 all.0.1 (λ k h. sym (stand.0 all.0.0 k h (item_word f.words k all.0.2))) in
    (sym same, all_saved m live all.1 stand.1)

pub live_saved : (g : Given) (rs : List Record) → HasBytes g.image → IsPlan g.plan → IsPast g rs
    → AreSaved (state_after g rs).memory (live_after rs)
live_saved g rs image plan past =
    all_saved (state_after g rs).memory (live_after rs) (live_frames g rs image plan past) (live_in_memory g rs past)
