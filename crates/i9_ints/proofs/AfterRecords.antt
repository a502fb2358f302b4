-- A byte once a frame is saved and a record is written.
use Rattle.std.proofs.Common.{◌≡◌, ℕ, ◌+◌, ◌-◌, ◌*◌, ◌%◌, ◌^◌, ◌<◌, ◌≤◌, Bool, true, false, List, length, get_or, Option, Some, None, sym, ap, ◌∙◌, inl, nat_lt, arith}
use Rattle.std.specs.Prelude.{not, ◌&&◌, ◌||◌, if◌then◌else◌}
use Rattle.std.proofs.lemmas.Bool.{le-ltb, lt-ltb}
use Rattle.i9_model.proofs.Among.{in_bytes-has}
use Rattle.i9_model.proofs.FrameLaws.{least-none}
use Rattle.i9_model.proofs.CallLaws.{second_none}
use Rattle.i9_model.specs.declared.layout.TheConstants.{FRAME_SIZE, RECORD_SIZE}
use Rattle.i9_model.specs.declared.push.Push.{Push}
use Rattle.i9_model.specs.declared.interrupts.Cause.{Cause}
use Rattle.i9_model.specs.Writes.{wrapped, upwards}
use Rattle.i9_model.specs.Memory.{Memory, in_port_page, stored, word_bytes, with_words}
use Rattle.i9_model.specs.State.{Frames}
use Rattle.i9_model.specs.Frames.{in_bytes, in_frames, is_put, saved, wrote, record_address, wrote_run}
use Rattle.i9_model.specs.Hazards.{least, or_else, read_hazard, write_hazard, port_hazard, record_write_hazard}
use Rattle.i9_model.specs.Step.{bytes_of_words}
use Rattle.i9_model.specs.Interrupts.{record_writes, byte_hazard, priority_place, pending_place, priority_hazard, taken_hazard, clearing_hazard}
use Rattle.i9_model.proofs.Places.{in_bytes-above}
use Rattle.i9_model.proofs.Runs.{is_put-upwards, wrote-upwards}
use Rattle.i9_model.proofs.Lengths.{words_long}
use Rattle.i9_model.proofs.Storing.{stored_kept, words_as_bytes}
use Rattle.i9_model.proofs.FrameBytes.{stored_at, byte_of_words}
use Rattle.i9_ints.specs.After.{memory_after, frames_after}

and_none : (b : Bool) → (b && not true) ≡ false
and_none b = grind arith

and_all : (b : Bool) → (b && not false) ≡ b
and_all b = grind arith

-- where a test finds nothing, it passes nowhere
least_none : (p : ℕ → Bool) (a n k : ℕ) → least p a n ≡ None → k < n → p (wrapped (a + k)) ≡ false
least_none p a n k none few = least-none p a n (wrapped (a + k)) none (in_bytes-has a n k few)

-- how far a byte lies above an address
abbrev above : ℕ → ℕ → ℕ
above a x = (x + (2 ^ 32 - a)) % 2 ^ 32

at_place : (a x k : ℕ) → a < 2 ^ 32 → x < 2 ^ 32 → above a x ≡ k → x ≡ wrapped (a + k)
at_place a x k h l e = omega arith

module _ (m : Memory) (f : Frames) (push : Push) (words : List ℕ) (x : ℕ) (four : length words ≡ 4) (small : x < 2 ^ 32) where
  abbrev place : ℕ
  place = record_address push.frame

  abbrev bytes : List ℕ
  bytes = bytes_of_words m place words

  bytes_long : length bytes ≡ RECORD_SIZE
  bytes_long = words_long m place words ∙ ap (λ (n : ℕ). 4 * n) four

  put_is : is_put (record_writes m push words) x ≡ nat_lt (above place x) RECORD_SIZE
  put_is =
      is_put-upwards place bytes x ∙ ap (λ (n : ℕ). in_bytes place n x) bytes_long ∙ in_bytes-above place RECORD_SIZE x (omega arith) small (omega arith)

  -- ---- soft bytes

  pub soft_in_record : above place x < RECORD_SIZE → (frames_after m f push words).soft x ≡ false
  soft_in_record near =
      ap (λ (b : Bool). (in_bytes push.save FRAME_SIZE x || f.soft x) && not b) (put_is ∙ lt-ltb (above place x) RECORD_SIZE near)
      ∙ and_none (in_bytes push.save FRAME_SIZE x || f.soft x)

  soft_beside : RECORD_SIZE ≤ above place x → (frames_after m f push words).soft x ≡ (in_bytes push.save FRAME_SIZE x || f.soft x)
  soft_beside far =
      ap (λ (b : Bool). (in_bytes push.save FRAME_SIZE x || f.soft x) && not b) (put_is ∙ le-ltb (above place x) RECORD_SIZE far)
      ∙ and_all (in_bytes push.save FRAME_SIZE x || f.soft x)

  saved_in : push.save < 2 ^ 32 → above push.save x < FRAME_SIZE → in_bytes push.save FRAME_SIZE x ≡ true
  saved_in h near = in_bytes-above push.save FRAME_SIZE x h small (omega arith) ∙ lt-ltb (above push.save x) FRAME_SIZE near

  saved_out : push.save < 2 ^ 32 → FRAME_SIZE ≤ above push.save x → in_bytes push.save FRAME_SIZE x ≡ false
  saved_out h far = in_bytes-above push.save FRAME_SIZE x h small (omega arith) ∙ le-ltb (above push.save x) FRAME_SIZE far

  pub soft_in_frame : push.save < 2 ^ 32 → RECORD_SIZE ≤ above place x → above push.save x < FRAME_SIZE → (frames_after m f push words).soft x ≡ true
  soft_in_frame h far near = soft_beside far ∙ ap (λ (b : Bool). b || f.soft x) (saved_in h near)

  pub soft_as_before : push.save < 2 ^ 32 → RECORD_SIZE ≤ above place x → FRAME_SIZE ≤ above push.save x → (frames_after m f push words).soft x ≡ f.soft x
  soft_as_before h far out = soft_beside far ∙ ap (λ (b : Bool). b || f.soft x) (saved_out h out)

  -- ---- bytes

  pub byte_beside : RECORD_SIZE ≤ above place x → (memory_after m push words).bytes x ≡ m.bytes x
  byte_beside far = stored_kept m.bytes (record_writes m push words) x (inl (put_is ∙ le-ltb (above place x) RECORD_SIZE far))

  pub byte_within : (i j : ℕ) → above place x ≡ 4 * i + j → i < 4 → j < 4 → port_hazard place RECORD_SIZE ≡ None
      → (memory_after m push words).bytes x ≡ get_or (word_bytes m (wrapped (place + 4 * i)) (get_or words i 0)) j 0
  unfolding port_hazard
  byte_within i j e few less none =
      let long = bytes_long in
      let at : x ≡ wrapped (place + (4 * i + j)) = at_place place x (4 * i + j) (omega arith) small e in
      ap (λ (y : ℕ). stored m.bytes (upwards place bytes) y) at
      ∙ stored_at m.bytes place bytes (4 * i + j) (omega arith) (omega arith) (least_none in_port_page place RECORD_SIZE (4 * i + j) none (omega arith))
      ∙ byte_of_words m place words i j (omega arith) (omega arith) less

  -- ---- hazards of a byte

  pub hazard_in_frame : push.save < 2 ^ 32 → above push.save x < FRAME_SIZE → byte_hazard (frames_after m f push words) x ≡ Some x
  unfolding write_hazard
  hazard_in_frame h near =
      let same : wrapped x ≡ x = omega arith in
      ap (λ (y : ℕ). or_else (if in_bytes push.save FRAME_SIZE y || in_frames f.live y then Some y else None) (port_hazard x 1)) same
      ∙ ap (λ (b : Bool). or_else (if b || in_frames f.live x then Some x else None) (port_hazard x 1)) (saved_in h near)

  pub hazard_as_before : push.save < 2 ^ 32 → FRAME_SIZE ≤ above push.save x → byte_hazard (frames_after m f push words) x ≡ byte_hazard f x
  unfolding write_hazard
  hazard_as_before h far =
      let same : wrapped x ≡ x = omega arith in
      ap (λ (b : Bool). or_else (if b || in_frames f.live (wrapped x) then Some (wrapped x) else None) (port_hazard x 1))
      (ap (in_bytes push.save FRAME_SIZE) same ∙ saved_out h far)

-- ---- what clears a request

module _ (m : Memory) (f : Frames) (table v : ℕ) where
  read_one : (x : ℕ) (b : Bool) → x < 2 ^ 32 → f.soft x ≡ b → read_hazard f x 1 ≡ (if b then Some x else None)
  unfolding read_hazard
  read_one x b h e = grind arith

  abbrev rest : Option ℕ
  rest = or_else (priority_hazard m f table v) (byte_hazard f (pending_place table v))

  pub taken_by_priority : f.soft (priority_place table v) ≡ true → taken_hazard m f table v ≡ Some (priority_place table v)
  unfolding taken_hazard
  taken_by_priority e = ap (λ (o : Option ℕ). or_else o (or_else (read_hazard f (pending_place table v) 1) rest)) (read_one (priority_place table v) true (omega arith) e)

  pub taken_by_pending : f.soft (priority_place table v) ≡ false → f.soft (pending_place table v) ≡ true → taken_hazard m f table v ≡ Some (pending_place table v)
  unfolding taken_hazard
  taken_by_pending e d =
      ap (λ (o : Option ℕ). or_else o (or_else (read_hazard f (pending_place table v) 1) rest)) (read_one (priority_place table v) false (omega arith) e)
      ∙ ap (λ (o : Option ℕ). or_else o rest) (read_one (pending_place table v) true (omega arith) d)

  pub taken_by_writes : f.soft (priority_place table v) ≡ false → f.soft (pending_place table v) ≡ false → taken_hazard m f table v ≡ rest
  unfolding taken_hazard
  taken_by_writes e d =
      ap (λ (o : Option ℕ). or_else o (or_else (read_hazard f (pending_place table v) 1) rest)) (read_one (priority_place table v) false (omega arith) e)
      ∙ ap (λ (o : Option ℕ). or_else o rest) (read_one (pending_place table v) false (omega arith) d)

-- where the record can be written, it has no byte of the port page
pub record_free : (f : Frames) (push : Push) → record_write_hazard f push ≡ None → port_hazard (record_address push.frame) RECORD_SIZE ≡ None
unfolding record_write_hazard
record_free f push e = second_none (write_hazard (saved f push.save) (record_address push.frame) RECORD_SIZE) (port_hazard (record_address push.frame) RECORD_SIZE) e

-- ---- what was planned for later

-- Once the frame is saved and the words of the record are written, what clears a request meets no hazard.
pub clears_freely : (cause : Cause) (m n : Memory) (f g : Frames) (push : Push) (words : List ℕ) (table v : ℕ) → length words ≡ 4
    → n ≡ with_words m (record_address push.frame) words → g ≡ wrote_run (saved f push.save) (record_address push.frame) RECORD_SIZE
    → clearing_hazard cause (memory_after m push words) (frames_after m f push words) table v ≡ None → clearing_hazard cause n g table v ≡ None
clears_freely cause m n f g push words table v four stores wrote free =
    let place = record_address push.frame in
    let bytes = bytes_of_words m place words in
    let long : RECORD_SIZE ≡ length bytes = sym (words_long m place words ∙ ap (λ (k : ℕ). 4 * k) four) in
    let memory : n ≡ memory_after m push words = stores ∙ words_as_bytes m place words in
    let frames : g ≡ frames_after m f push words = wrote ∙ ap (wrote_run (saved f push.save) place) long ∙ sym (wrote-upwards (saved f push.save) place bytes) in
    ap (λ (k : Memory). clearing_hazard cause k g table v) memory
    ∙ ap (λ (h : Frames). clearing_hazard cause (memory_after m push words) h table v) frames
    ∙ free
