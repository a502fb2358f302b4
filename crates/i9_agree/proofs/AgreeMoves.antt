-- Actions that are alike leave states that agree.
use Rattle.std.proofs.Common.{◌≡◌, ℕ, ◌+◌, ◌*◌, Bool, true, false, List, [], ◌∷◌, length, nat_le, refl, sym, ap, ◌∙◌, subst, arith}
use Rattle.std.specs.Prelude.{not, replicate}
use Rattle.std.proofs.lemmas.Bool.{or_left}
use Rattle.i9_model.specs.declared.layout.TheConstants.{FRAME_SIZE}
use Rattle.i9_model.specs.Writes.{address_count, wrapped, written, upwards}
use Rattle.i9_model.specs.Memory.{Memory, in_port_page, stored, word_bytes, with_bytes, with_writes}
use Rattle.i9_model.specs.State.{State, Frames}
use Rattle.i9_model.specs.Frames.{in_bytes, in_frames, has, saved, with_marked, returned, flushed, is_put, wrote, softened}
use Rattle.i9_model.specs.Stale.{byte_marks}
use Rattle.i9_model.specs.Step.{Move, Stays, Saves, Returns, Flushes, Action, bytes_of_words, memory_after, frames_after, moved}
use Rattle.i9_model.specs.Alike.{is_beyond, is_hard, AgreeWhere, with_other, shows, is_open, with_values, Agree, AreValuesAlike, AreWritesAlike, AreMovesAlike, AreActionsAlike}
use Rattle.i9_model.specs.Free.{IsWhole}
use Rattle.i9_model.proofs.Runs.{is_put-upwards}
use Rattle.i9_model.proofs.Lengths.{four_bytes, words_long}
use Rattle.i9_model.proofs.Storing.{stored_words_same, words_as_bytes}
use Rattle.i9_agree.proofs.Agreeing.{shows-after, values-append, values-marked, writes-same, writes-picked, puts-same, written-alike, stored-alike}

-- ---- which bytes are open

pub open-port : (hides : Bool) (f : Frames) (x : ℕ) → in_port_page x ≡ true → is_open hides f x ≡ true
open-port hides f x p = or_left _ _ (or_left (is_beyond x) (not (f.soft x)) (or_left (in_port_page x) (nat_le address_count x) p))

-- what may be read is open
pub open-hard : (hides : Bool) (f : Frames) (x : ℕ) → is_hard f x ≡ true → is_open hides f x ≡ true
open-hard hides f x h = or_left _ _ h

-- fewer marks leave more open
open-marked : (hides : Bool) (f : Frames) (lost : List ℕ) (x : ℕ) → is_open hides (with_marked f lost) x ≡ true → is_open hides f x ≡ true
open-marked hides f lost x h = grind arith

open-returned : (hides : Bool) (f : Frames) (x : ℕ) → is_open hides (returned f) x ≡ true → is_open hides f x ≡ true
open-returned hides f x h = grind arith

pub open-flushed : (hides : Bool) (f : Frames) (x : ℕ) → is_open hides (flushed f) x ≡ true → is_open hides f x ≡ true
open-flushed hides f x h = grind arith

-- ---- writes

-- the marked ones of the bytes that are written lie beside the port page and live frames
abbrev pub AreInside : Frames → List ℕ → Type 0
AreInside f stale = (x : ℕ) → has stale x ≡ true → (is_beyond x ≡ false) × (in_frames f.live x ≡ false)

-- writes that are alike keep memories that agree
pub writes-agree : (hides : Bool) (f : Frames) (m : Memory) (bytes : ℕ → ℕ) (ps qs : List (ℕ × ℕ)) (stale : List ℕ) → (hides ≡ true → AreInside f stale) → AreWritesAlike hides stale ps qs → AgreeWhere (is_open hides f) m bytes
    → AgreeWhere (is_open hides (softened (wrote f ps) stale)) (with_writes m ps) (stored bytes qs)
writes-agree hides f m bytes ps qs stale inside alike same = grind (arith, stored-alike, open-port)

-- ---- moves of frames

-- words that are alike have bytes that are alike
pub bytes-alike : (hides : Bool) (m : Memory) (a : ℕ) (bs : List Bool) (vs ws : List ℕ) → AreValuesAlike hides bs vs ws → AreValuesAlike hides (byte_marks bs) (bytes_of_words m a vs) (bytes_of_words m a ws)
unfolding bytes_of_words
bytes-alike hides m a [] [] [] h = tt
bytes-alike hides m a (b ∷ bs) (v ∷ vs) (w ∷ ws) h =
    values-append hides (replicate 4 b) (byte_marks bs) (word_bytes m a v) (word_bytes m a w) (bytes_of_words m (wrapped (a + 4)) vs) (bytes_of_words m (wrapped (a + 4)) ws)
    (values-marked hides b 4 (word_bytes m a v) (word_bytes m a w) (four_bytes m a v) (four_bytes m a w) (λ t. ap (word_bytes m a) (h.0 t)))
    (bytes-alike hides m (wrapped (a + 4)) bs vs ws h.1)
bytes-alike hides m a _ _ _ h = absurd h

-- the marked bytes of a frame that is saved are in its save area, beside the port page
abbrev pub AreOfSave : Move → List ℕ → Type 0
AreOfSave (Saves a ws) lost = (x : ℕ) → has lost x ≡ true → (is_beyond x ≡ false) × (in_bytes a FRAME_SIZE x ≡ true)
AreOfSave _ lost = Unit {0}

open-saved : (hides : Bool) (f : Frames) (a : ℕ) (lost : List ℕ) (x : ℕ) → (hides ≡ true → has lost x ≡ true → (is_beyond x ≡ false) × (in_bytes a FRAME_SIZE x ≡ true))
    → is_open hides (with_marked (saved f a) lost) x ≡ true → (shows hides (has lost x) ≡ true) × (in_bytes a FRAME_SIZE x ≡ false → is_open hides f x ≡ true)
open-saved hides f a lost x inside h = grind arith

-- frames whose bytes are alike are saved
saves-agree : (hides : Bool) (f : Frames) (m : Memory) (bytes : ℕ → ℕ) (a : ℕ) (lost : List ℕ) (vs ws : List ℕ) → (hides ≡ true → AreOfSave (Saves a vs) lost) → IsWhole (Saves a vs)
    → AreWritesAlike hides lost (upwards a (bytes_of_words m a vs)) (upwards a (bytes_of_words m a ws)) → AgreeWhere (is_open hides f) m bytes
    → AgreeWhere (is_open hides (with_marked (saved f a) lost)) (memory_after m (Saves a vs)) (memory_after (with_other m bytes) (Saves a ws)).bytes
saves-agree hides f m bytes a lost vs ws inside whole writes same = λ x h.
    let found = open-saved hides f a lost x (λ e t. inside e x t) h in
    let xs = bytes_of_words m a vs in
    let long : length xs ≡ FRAME_SIZE = words_long m a vs ∙ ap (λ (n : ℕ). 4 * n) whole in
    let put : is_put (upwards a xs) x ≡ in_bytes a FRAME_SIZE x = is_put-upwards a xs x ∙ ap (λ (n : ℕ). in_bytes a n x) long in
    ap (λ (k : Memory). k.bytes x) (words_as_bytes (with_other m bytes) a ws ∙ ap (with_bytes (with_other m bytes) a) (stored_words_same m bytes a ws))
    ∙ stored-alike hides lost m.bytes bytes (upwards a xs) (upwards a (bytes_of_words m a ws)) x writes (λ p. same x (open-port hides f x p)) (λ p. found.0) (λ out. same x (found.1 (sym put ∙ out)))
    ∙ sym (ap (λ (k : Memory). k.bytes x) (words_as_bytes m a vs))

-- the words of a frame that is saved are alike, and so are its bytes
save-alike : (hides : Bool) (m : Memory) (a : ℕ) (lost : List ℕ) (vs ws : List ℕ) → AreMovesAlike hides lost (Saves a vs) (Saves a ws) → AreWritesAlike hides lost (upwards a (bytes_of_words m a vs)) (upwards a (bytes_of_words m a ws))
save-alike hides m a lost vs ws alike = grind (arith, writes-picked, bytes-alike)

move-agree : (hides : Bool) (v w : Move) (lost : List ℕ) (f : Frames) (m : Memory) (bytes : ℕ → ℕ) → (hides ≡ true → AreOfSave v lost) → IsWhole v → AreMovesAlike hides lost v w → AgreeWhere (is_open hides f) m bytes
    → AgreeWhere (is_open hides (with_marked (frames_after f v) lost)) (memory_after m v) (memory_after (with_other m bytes) w).bytes
move-agree hides Stays w lost f m bytes inside whole alike same = λ x h. rw alike (same x (open-marked hides f lost x h))
move-agree hides Returns w lost f m bytes inside whole alike same = λ x h. rw alike (same x (open-returned hides f x (open-marked hides (returned f) lost x h)))
move-agree hides Flushes w lost f m bytes inside whole alike same = λ x h. rw alike (same x (open-flushed hides f x (open-marked hides (flushed f) lost x h)))
move-agree hides (Saves a vs) (Saves b ws) lost f m bytes inside whole alike same = λ x h.
    rw alike.0 (saves-agree hides f m bytes a lost vs ws inside whole (save-alike hides m a lost vs ws (refl, alike.1)) same x h)
move-agree hides (Saves a vs) _ lost f m bytes inside whole alike same = absurd alike

-- the same move keeps states that are alike so
pub move_alike : (v : Move) (f : Frames) (m : Memory) (bytes : ℕ → ℕ) → IsWhole v → AgreeWhere (is_open false f) m bytes → AgreeWhere (is_open false (frames_after f v)) (memory_after m v) (memory_after (with_other m bytes) v).bytes
move_alike (Saves a ws) f m bytes whole same = saves-agree false f m bytes a [] ws ws (λ e. absurd cc) whole (writes-same false [] (upwards a (bytes_of_words m a ws))) same
move_alike Stays f m bytes whole same = same
move_alike Returns f m bytes whole same = λ x h. same x (open-returned false f x h)
move_alike Flushes f m bytes whole same = λ x h. same x (open-flushed false f x h)

-- no move changes a configuration word
pub move_mcon : (v : Move) (m : Memory) → (memory_after m v).mcon ≡ m.mcon
move_mcon v m = grind (arith, words_as_bytes)

-- ---- the state after an action

-- what is marked of it is where it may be
pub record IsContained (s : State) (a : Action) : Type 0 where
  pub whole : IsWhole a.move
  pub lost : AreOfSave a.move a.lost
  pub stale : AreInside (frames_after s.frames a.move) a.stale

abbrev with_parts : State → (ℕ → ℕ) → (ℕ → ℕ) → (ℕ → ℕ) → (ℕ → ℕ) → (ℕ → Bool) → Frames → State
with_parts s regs bytes mcon reading marks frames = record s { regs = regs; memory = record { bytes = bytes; mcon = mcon }; reading = reading; marks = marks; frames = frames }

-- another action with these values, in another state
abbrev with_data : Action → Action → Action
with_data a b = record a { sets = b.sets; writes = b.writes; move = b.move }

moved-rest : (hides : Bool) (s : State) (a b : Action) (regs bytes reading : ℕ → ℕ) → AreActionsAlike hides a b
    → moved (with_values s regs bytes reading) (with_data a b) ≡ with_values (moved s a) (written regs b.sets) (stored (memory_after (with_other s.memory bytes) b.move).bytes b.writes) reading
unfolding moved
moved-rest hides s a b regs bytes reading alike = grind (arith, move_mcon, puts-same)

pub moved-agree : (hides : Bool) (s t : State) (a b : Action) → IsContained s a → AreActionsAlike hides a b → Agree hides s t → Agree hides (moved s a) (moved t b)
unfolding moved
moved-agree hides s t a b inside alike agree =
    let regs = t.regs in
    let bytes = t.memory.bytes in
    let reading = t.reading in
    let k = memory_after (with_other s.memory bytes) b.move in
    let here : Agree hides (moved s a) (with_values (moved s a) (written regs b.sets) (stored k.bytes b.writes) reading) = record {
      rest = refl;
      regs = λ r h.
          let shown = shows-after hides s.marks a.sets a.marked r h in
          written-alike hides a.marked s.regs regs a.sets b.sets r alike.sets shown.0 (λ out. agree.regs r (shown.1 out));
      bytes = writes-agree hides (with_marked (frames_after s.frames a.move) a.lost) (memory_after s.memory a.move) k.bytes a.writes b.writes a.stale (λ e. inside.stale) alike.writes
          (move-agree hides a.move b.move a.lost s.frames s.memory bytes (λ e. inside.lost) inside.whole alike.move agree.bytes);
      reading = agree.reading;
    } in
    let same : moved t b ≡ with_values (moved s a) (written regs b.sets) (stored k.bytes b.writes) reading =
    ap (λ (u : State). moved u b) agree.rest ∙ ap (moved (with_values s regs bytes reading)) alike.rest ∙ moved-rest hides s a b regs bytes reading alike in
    subst (λ (u : State). Agree hides (moved s a) u) (sym same) here
