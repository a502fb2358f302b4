-- Accesses place by place.
use Rattle.std.proofs.Common.{◌≡◌, ◌≢◌, cond, ℕ, zero, suc, ◌+◌, ◌*◌, ◌-◌, ◌%◌, ◌^◌, ◌<◌, ◌≤◌, ◌⊎◌, ⊎_elim, nat_lt, Bool, true, false, List, [], ◌∷◌, Some, None, refl, sym, subst, ap, ◌∙◌, add-zero, add-one, arith}
use Rattle.std.specs.Prelude.{slice_get, if◌then◌else◌, ◌&&◌, ◌||◌, ◌==◌, not}
use Rattle.std.proofs.lemmas.Bool.{false≢true, eqb-true, lt-ltb, le-ltb, cases_lt, and_parts, and_left, or_from}
use Rattle.i9_model.proofs.Places.{in_bytes-none, in_bytes-more}
use Rattle.std.specs.Bool.{then_some}
use Rattle.std.proofs.lemmas.Bool.Decides.{nat_tests}
use Rattle.i9_model.specs.declared.layout.TheConstants.{FRAME_SIZE, PORT_PAGE}
use Rattle.i9_model.specs.Memory.{in_port_page}
use Rattle.i9_model.specs.Writes.{wrapped}
use Rattle.i9_model.specs.State.{Frames}
use Rattle.i9_model.specs.Frames.{in_bytes, in_frames}
use Rattle.i9_model.specs.Hazards.{least, save_hazard}
use Rattle.i9_model.specs.Sound.{AreApart}
use Rattle.i9_watch.specs.Live.{AreAligned}
use Rattle.i9_watch.specs.declared.page.Mark.{Mark}
use Rattle.i9_watch.specs.declared.page.Mark.TheVariants.{Soft, Live, Lost}
use Rattle.i9_watch.specs.declared.page.Change.TheVariants.{Return, Store}
use Rattle.i9_model.specs.Stale.{word_mark, left_stale}
use Rattle.i9_model.proofs.FrameLaws.{apart-saved}
use Rattle.i9_watch.specs.declared.watch.Watch.{Watch}
use Rattle.i9_watch.specs.Bits.{bits_of, in_runs}
use Rattle.i9_watch.specs.Marks.{is_marked, changed_run}
use Rattle.i9_watch.specs.Watch.{frames_of}
use Rattle.i9_watch.proofs.Runs.{runs-zero, words-inside}
use Rattle.i9_model.proofs.Readings.{next_place}
use Rattle.i9_watch.proofs.Marking.{same_marks, run_clear}

-- the first place of an access passes the test, or those behind it are looked at
pub least-first : (test : ℕ → Bool) (a n : ℕ) → 0 < n → least test a n ≡ (if test (wrapped a) then Some (wrapped a) else least test (a + 1) (n - 1))
least-first test a zero h = absurd (omega arith)
least-first test a (suc n) h = let rest : suc n - 1 ≡ n = omega arith in rw rest

-- none of the places before k passes, and this one does
pub least_passes : (test : ℕ → Bool) (a n k : ℕ) → k < n → test (wrapped (a + k)) ≡ true → least test (a + k) (n - k) ≡ Some (wrapped (a + k))
least_passes test a n k h t =
    least-first test (a + k) (n - k) (omega arith)
    ∙ ap (λ (b : Bool). if b then Some (wrapped (a + k)) else least test (a + k + 1) (n - k - 1)) t

-- this one does not pass either
pub least_fails : (test : ℕ → Bool) (a n k : ℕ) → k < n → test (wrapped (a + k)) ≡ false → least test (a + (k + 1)) (n - (k + 1)) ≡ least test (a + k) (n - k)
least_fails test a n k h t =
    let next : a + (k + 1) ≡ a + k + 1 = omega arith in
    let fewer : n - (k + 1) ≡ n - k - 1 = omega arith in
    rw (next, fewer, least-first test (a + k) (n - k) (omega arith), t)

-- a run with no byte that passes
pub least-skips : (test : ℕ → Bool) (a n j : ℕ) → j ≤ n → ((k : ℕ) → k < j → test (wrapped (a + k)) ≡ false) → least test (a + j) (n - j) ≡ least test a n
least-skips test a n zero h fails = let all : n - 0 ≡ n = omega arith in rw (add-zero, all)
least-skips test a n (suc j) h fails =
    rw (← add-one j) (least_fails test a n j (omega arith) (fails j (omega arith)))
    ∙ least-skips test a n j (omega arith) (λ k less. fails k (omega arith))

pub least_is_none : (test : ℕ → Bool) (a n : ℕ) → ((k : ℕ) → k < n → test (wrapped (a + k)) ≡ false) → None ≡ least test a n
least_is_none test a n fails = let none : n - n ≡ 0 = omega arith in ap (least test (a + n)) (sym none) ∙ least-skips test a n n (omega arith) fails

-- the first byte that passes
pub least-is : (test : ℕ → Bool) (a n j : ℕ) → j < n → ((k : ℕ) → k < j → test (wrapped (a + k)) ≡ false) → test (wrapped (a + j)) ≡ true → Some (wrapped (a + j)) ≡ least test a n
least-is test a n j h fails passes = sym (least_passes test a n j h passes) ∙ least-skips test a n j (omega arith) fails

-- ---- marks after a change

-- they are as they were
pub no_change : (here : ℕ → Bool) {f g : ℕ → Bool} → g ≡ (λ x. if here x then f x else f x) → g ≡ f
no_change here q = rw q (same_marks _ _ (λ x. grind arith))

-- set where others were
pub set_where : (here : ℕ → Bool) {mark f g : ℕ → Bool} → f ≡ mark → g ≡ (λ x. if here x then true else f x) → g ≡ (λ x. here x || mark x)
set_where here p q = rw (q, p) (same_marks _ _ (λ x. grind arith))

pub clear_where : (here f : ℕ → Bool) {g : ℕ → Bool} → g ≡ (λ x. if here x then false else f x) → g ≡ (λ x. f x && not (here x))
clear_where here f q = rw q (same_marks _ _ (λ x. grind arith))

-- a frame's bytes are not marked any more, and the frame is left out
pub frame_cleared : (f g : ℕ → Bool) (a : ℕ) (xs ys : List ℕ) → g ≡ (λ x. if in_bytes a FRAME_SIZE x then false else f x) → xs ≡ a ∷ ys → ◌≡◌ {A = ℕ → Bool} (λ x. g x && not (in_frames ys x)) (λ x. f x && not (in_frames xs x))
frame_cleared f g a xs ys p q = rw (p, q) (same_marks _ _ (λ x. grind arith))

pub no_frame_cleared : (f : ℕ → Bool) (xs : List ℕ) → xs ≡ [] → ◌≡◌ {A = ℕ → Bool} (λ x. f x && not (in_frames xs x)) f
no_frame_cleared f xs q = rw q (same_marks _ _ (λ x. grind arith))

-- ---- the port page

-- how far the port page is above an address
abbrev pub to_port : ℕ → ℕ
to_port a = (PORT_PAGE + (2 ^ 32 - a)) % 2 ^ 32

-- before the port page
before_port : (a n k : ℕ) → a < 2 ^ 32 → (in_port_page a ≡ false) ⊎ (n ≡ 0) → k < to_port a → k < n → in_port_page (wrapped (a + k)) ≡ false
before_port a n k small out h l = grind (arith, nat_tests)

port_here : (a : ℕ) → a < 2 ^ 32 → wrapped (a + to_port a) ≡ PORT_PAGE
port_here a small = omega arith

-- the port page from below, or from behind
pub port_above : (a n : ℕ) → a < 2 ^ 32 → (in_port_page a ≡ false) ⊎ (n ≡ 0) → then_some (nat_lt (to_port a) n) PORT_PAGE ≡ least in_port_page a n
port_above a n small out = ⊎_elim
    (λ less. rw (lt-ltb (to_port a) n less) (ap Some (sym (port_here a small))
    ∙ least-is in_port_page a n (to_port a) less (λ k h. before_port a n k small out h (omega arith)) (ap in_port_page (port_here a small))))
    (λ most. rw (le-ltb (to_port a) n most) (least_is_none in_port_page a n (λ k h. before_port a n k small out (omega arith) h)))
    (cases_lt (to_port a) n)

abbrev frames : (ℕ → Bool) → List ℕ → (ℕ → Bool) → Frames
frames soft live marked = record { soft = soft; live = live; marked = marked }

pub same_frames : {f g : ℕ → Bool} {xs ys : List ℕ} {m n : ℕ → Bool} → f ≡ g → xs ≡ ys → m ≡ n → frames f xs m ≡ frames g ys n
same_frames p q r = λ i. frames (p i) (q i) (r i)

-- ---- what a watch keeps

-- with this room, of its live frames, by their marks and those of lost words, and by whether there are such
abbrev pub Kept : Type 0 → List ℕ → (ℕ → Bool) → (ℕ → Bool) → Bool → Type 0
Kept room xs live lost has_lost = record {
  room : room;
  aligned : AreAligned xs;
  apart : AreApart xs;
  marked : live ≡ in_frames xs;
  within : (x : ℕ) → lost x ≡ true → in_frames xs x ≡ true;
  none_lost : has_lost ≡ false → (x : ℕ) → lost x ≡ false;
}

-- no frame is live
pub none_kept : {room : Type 0} (xs : List ℕ) (live lost : ℕ → Bool) (has_lost : Bool) → room → xs ≡ [] → live ≡ (λ _. false) → lost ≡ (λ _. false) → Kept room xs live lost has_lost
none_kept xs live lost has_lost room e p q = record {
  room = room;
  aligned = subst AreAligned (sym e) tt;
  apart = subst AreApart (sym e) tt;
  marked = p ∙ ap in_frames (sym e);
  within = λ x t. absurd (false≢true (sym (ap (λ (f : ℕ → Bool). f x) q) ∙ t));
  none_lost = λ _ x. ap (λ (f : ℕ → Bool). f x) q;
}

module _ {room : Type 0} (w : Watch) (ys : List ℕ) (live lost : ℕ → Bool) (has_room : room) where
  -- frames and marks are as they were
  pub same_kept : ys ≡ w.live.items → live ≡ is_marked Live w.marks → lost ≡ is_marked Lost w.marks → Kept room ys live lost w.has_lost
  same_kept e p q = record {
    room = has_room;
    aligned = subst AreAligned (sym e) w.aligned;
    apart = subst AreApart (sym e) w.apart;
    marked = p ∙ w.marked ∙ ap in_frames (sym e);
    within = λ x t. ap (λ (fs : List ℕ). in_frames fs x) e ∙ w.within x (ap (λ (f : ℕ → Bool). f x) (sym q) ∙ t);
    none_lost = λ h x. ap (λ (f : ℕ → Bool). f x) q ∙ w.none_lost h x;
  }

  -- a frame is live, and some of its words are marked
  pub called_kept : (a v : ℕ) → a % 16 ≡ 0 → save_hazard (frames_of w) a ≡ None → ys ≡ a ∷ w.live.items
      → live ≡ (λ x. in_bytes a FRAME_SIZE x || is_marked Live w.marks x) → lost ≡ (λ x. in_runs a 4 (bits_of v 16) x || is_marked Lost w.marks x)
      → Kept room ys live lost (w.has_lost || not (v == 0))
  unfolding frames_of
  called_kept a v aligned free e p q = record {
    room = has_room;
    aligned = subst AreAligned (sym e) (aligned, w.aligned);
    apart = subst AreApart (sym e) (apart-saved (frames_of w) a w.apart free);
    marked = p ∙ ap (λ (f : ℕ → Bool). λ (x : ℕ). in_bytes a FRAME_SIZE x || f x) w.marked ∙ ap in_frames (sym e);
    within = λ x t. ap (λ (fs : List ℕ). in_frames fs x) e
        ∙ both (words-inside a v x) (w.within x) (ap (λ (f : ℕ → Bool). f x) (sym q) ∙ t);
    none_lost = λ h x. ap (λ (f : ℕ → Bool). f x) q
        ∙ or_from _ _ (runs-zero a 4 v 16 x (none_set w.has_lost v h).1) (w.none_lost (none_set w.has_lost v h).0 x);
  }
    where
      both : {b c d e : Bool} → (b ≡ true → d ≡ true) → (c ≡ true → e ≡ true) → (b || c) ≡ true → (d || e) ≡ true
      both h k t = grind arith

      -- no word is marked in the frames before, nor in a further one
      none_set : (b : Bool) (n : ℕ) → (b || not (n == 0)) ≡ false → (b ≡ false) × (n ≡ 0)
      none_set b n e = grind (arith, nat_tests)

-- of a frame that is returned to no word is marked any more, and the others stay, which are live still
pub lost-returned : (w : Watch) (a : ℕ) (ys : List ℕ) (g : ℕ → Bool) → w.live.items ≡ a ∷ ys → g ≡ (λ x. if in_bytes a FRAME_SIZE x then false else is_marked Lost w.marks x) → g ≡ (λ x. is_marked Lost w.marks x && in_frames ys x)
lost-returned w a ys g e q = q ∙ same_marks _ _ (λ x. left ((subst AreApart e w.apart).0 x) (rw e at (w.within x)))
  where
    left : {here lost live : Bool} → (here ≡ true → live ≡ false) → (lost ≡ true → (here || live) ≡ true) → (if here then false else lost) ≡ (lost && live)
    left none some = grind arith

-- the first live frame is live no more, and no other was where it is
pub returned_kept : {room : Type 0} (w : Watch) (a : ℕ) (ys : List ℕ) (live lost : ℕ → Bool) → room → w.live.items ≡ a ∷ ys → live ≡ (λ x. if in_bytes a FRAME_SIZE x then false else is_marked Live w.marks x)
    → lost ≡ (λ x. is_marked Lost w.marks x && in_frames ys x) → Kept room ys live lost w.has_lost
returned_kept w a ys live lost room e p q = record {
  room = room;
  aligned = (subst AreAligned e w.aligned).1;
  apart = (subst AreApart e w.apart).1;
  marked = p ∙ same_marks _ _ (λ x. left ((subst AreApart e w.apart).0 x) (rw e at (ap (λ (f : ℕ → Bool). f x) w.marked)));
  within = λ x t. (and_parts (is_marked Lost w.marks x) (in_frames ys x) (ap (λ (f : ℕ → Bool). f x) (sym q) ∙ t)).1;
  none_lost = λ h x. ap (λ (f : ℕ → Bool). f x) q ∙ and_left _ _ (w.none_lost h x);
}
  where
    left : {here mark live : Bool} → (here ≡ true → live ≡ false) → mark ≡ (here || live) → (if here then false else mark) ≡ live
    left none is = grind arith

-- no mark of a live frame is left
pub none_left : (xs : List ℕ) (mark f g : ℕ → Bool) → ((x : ℕ) → mark x ≡ true → in_frames xs x ≡ true) → f ≡ mark → g ≡ (λ x. f x && not (in_frames xs x)) → g ≡ (λ _. false)
none_left xs mark f g within p q = rw (q, p) (same_marks _ _ (λ x. let some = within x in grind arith))

-- ---- bytes that are hard

pub harden_none : (a : ℕ) (soft lost : ℕ → Bool) → soft ≡ (λ x. soft x && not (in_bytes a 0 x && not (lost x)))
harden_none a soft lost = same_marks _ _ (λ x. grind (arith, in_bytes-none))

-- a further byte of a frame, which is hard where it is in no marked word
pub harden_step : (a k : ℕ) (soft lost f g : ℕ → Bool) → f ≡ (λ x. soft x && not (in_bytes a k x && not (lost x))) → g ≡ (if lost (wrapped (a + k)) then f else changed_run Store Soft (wrapped (a + k)) 1 f)
    → g ≡ (λ x. soft x && not (in_bytes a (k + 1) x && not (lost x)))
harden_step a k soft lost f g p q = rw (q, p) (same_marks _ _ (λ x.
    by_place x (x == wrapped (a + k)) (lost (wrapped (a + k))) (in_bytes-more a k x) (one x) (λ t. ap lost (eqb-true x (wrapped (a + k)) t))))
  where
    again : wrapped (wrapped (a + k) + 0) ≡ wrapped (a + k)
    again = omega arith

    one : (x : ℕ) → in_bytes (wrapped (a + k)) 1 x ≡ (x == wrapped (a + k))
    one x = in_bytes-more (wrapped (a + k)) 0 x ∙ rw (in_bytes-none, again)

    hardened : ℕ → Bool
    hardened x = soft x && not (in_bytes a k x && not (lost x))

    by_place : (x : ℕ) (here marked : Bool) → in_bytes a (k + 1) x ≡ (in_bytes a k x || here) → in_bytes (wrapped (a + k)) 1 x ≡ here → (here ≡ true → lost x ≡ marked)
        → (if marked then hardened else changed_run Store Soft (wrapped (a + k)) 1 hardened) x ≡ (soft x && not (in_bytes a (k + 1) x && not (lost x)))
    by_place x here marked more one is = grind arith

-- a further frame
pub frame_hardened : (f g lost : ℕ → Bool) (a : ℕ) (xs ys : List ℕ) → g ≡ (λ x. f x && not (in_bytes a FRAME_SIZE x && not (lost x))) → xs ≡ a ∷ ys → ◌≡◌ {A = ℕ → Bool} (λ x. g x && not (in_frames ys x && not (lost x))) (λ x. f x && not (in_frames xs x && not (lost x)))
frame_hardened f g lost a xs ys p q = rw (p, q) (same_marks _ _ (λ x. grind arith))

pub no_frame_hardened : (f lost : ℕ → Bool) (xs : List ℕ) → xs ≡ [] → ◌≡◌ {A = ℕ → Bool} (λ x. f x && not (in_frames xs x && not (lost x))) f
no_frame_hardened f lost xs q = rw q (same_marks _ _ (λ x. grind arith))

-- a mark that goes with the frame
pub by_other : (m : Mark) → m ≢ Soft → (a : ℕ) (f g : ℕ → Bool) → g ≡ changed_run Return m a FRAME_SIZE f → g ≡ (λ x. if in_bytes a FRAME_SIZE x then false else f x)
by_other Soft other a f g e = absurd (other refl)
by_other _ other a f g e = e

-- what a flush leaves soft
pub kept_order : (soft lost : ℕ → Bool) (live : List ℕ) → ◌≡◌ {A = ℕ → Bool} (λ x. soft x && not (in_frames live x && not (lost x))) (λ x. soft x && not (cond (not (lost x)) (in_frames live x) false))
kept_order soft lost live = same_marks _ _ (λ x. grind arith)

-- a store leaves the other marks
pub store_other : (m : Mark) → m ≢ Soft → (a n : ℕ) (f g : ℕ → Bool) → g ≡ changed_run Store m a n f → g ≡ f
store_other Soft other a n f g e = absurd (other refl)
store_other _ other a n f g e = no_change _ e

pub where_true : (b : Bool) (f g : ℕ → Bool) → b ≡ true → f ≡ (if b then f else g)
where_true b f g e = ap (λ (c : Bool). if c then f else g) (sym e)

pub where_false : (b : Bool) (f g : ℕ → Bool) → b ≡ false → g ≡ (if b then f else g)
where_false b f g e = ap (λ (c : Bool). if c then f else g) (sym e)

-- where no word of a frame is marked, all its bytes are hard
pub harden_whole : (a n : ℕ) (soft lost g : ℕ → Bool) → ((k : ℕ) → k < n → lost (wrapped (a + k)) ≡ false) → g ≡ (λ x. if in_bytes a n x then false else soft x)
    → g ≡ (λ x. soft x && not (in_bytes a n x && not (lost x)))
harden_whole a n soft lost g none q = rw q (same_marks _ _ (λ x. let clear = run_clear lost a n x none in grind arith))

-- nor is a word of it
pub words_clear : (f : ℕ → Bool) (a j : ℕ) → ((k : ℕ) → k < FRAME_SIZE → f (wrapped (a + k)) ≡ false) → j < 16 → word_mark f (wrapped (a + 4 * j)) ≡ false
words_clear f a j none lt =
    let at = 4 * j in
    rw (none at (omega (arith, lt)), byte 1 (omega arith), byte 2 (omega arith), byte 3 (omega arith)) refl
  where
    byte : (i : ℕ) → i < 4 → f (wrapped (wrapped (a + 4 * j) + i)) ≡ false
    byte i small = ap f (next_place a (4 * j) i) ∙ none (4 * j + i) (omega (arith, lt, small))

-- which bytes are stale for a return, by whether a frame is live
pub none_live : (live : List ℕ) (f : Frames) → slice_get live 0 ≡ None → left_stale live f ≡ f.soft
none_live live f e = grind arith

pub some_live : (live : List ℕ) (g : ℕ) (f : Frames) → slice_get live 0 ≡ Some g → left_stale live f ≡ f.marked
some_live live g f e = grind arith
