-- Bytes of the interrupt table that are stored, one after the other.
use Rattle.std.proofs.Common.{◌≡◌, ◌⊎◌, ℕ, ◌+◌, ◌/◌, ◌%◌, ◌^◌, ◌<◌, Bool, false, List, [], ◌∷◌, ◌++◌, get_or, Option, Ok, sym, ap, ◌∙◌, subst, arith}
use Rattle.std.specs.Prelude.{not, ◌==◌, ◌&&◌, ◌||◌, if◌then◌else◌}
use Rattle.std.proofs.lemmas.Bool.{eq-eqb, ne_eqb}
use Rattle.i9_model.proofs.Upwards.{one_write}
use Rattle.i9_model.specs.declared.interrupts.TheConstants.{PENDING_SIZE, PENDING_VECTORS}
use Rattle.i9_model.specs.Writes.{wrapped}
use Rattle.i9_model.specs.Memory.{Memory, with_writes, with_bytes}
use Rattle.i9_model.specs.State.{Frames}
use Rattle.i9_model.specs.Frames.{is_put, wrote, wrote_run}
use Rattle.i9_model.specs.Interrupts.{priority_place, pending_place, vector_priority, without_bit, request_writes, left_pending, taken_writes, clearing_writes}
use Rattle.i9_model.specs.declared.interrupts.Cause.{Cause}
use Rattle.i9_model.specs.declared.interrupts.Cause.TheVariants.{Nmi, Line}
use Rattle.i9_model.specs.Hazards.{unless}
use Rattle.i9_model.proofs.CallLaws.{unless_ok}
use Rattle.i9_model.proofs.FrameLaws.{none_wrote}
use Rattle.i9_model.proofs.Runs.{wrote-upwards}
use Rattle.i9_model.proofs.Stored.{stored-cons}
use Rattle.i9_memory.specs.declared.memory.Memory.{Memory as Kept}
use Rattle.i9_memory.specs.Memory.{IsReserved, HasRoom, KeepsRoom}

-- a byte is stored
pub store_memory : (m n : Memory) (a v : ℕ) → a < 2 ^ 32 → n ≡ with_bytes m a (v ∷ []) → n ≡ with_writes m ((a, v) ∷ [])
store_memory m n a v h is = is ∙ ap (with_writes m) (one_write a v h)

pub store_frames : (f g : Frames) (a v : ℕ) → a < 2 ^ 32 → g ≡ wrote_run f a 1 → g ≡ wrote f ((a, v) ∷ [])
store_frames f g a v h is = is ∙ sym (wrote-upwards f a (v ∷ [])) ∙ ap (wrote f) (one_write a v h)

-- a byte is stored, and then others
pub then_memory : (m k n : Memory) (p : ℕ × ℕ) (ps : List (ℕ × ℕ)) → k ≡ with_writes m (p ∷ []) → n ≡ with_writes k ps → n ≡ with_writes m (p ∷ ps)
then_memory m k n p ps first later =
    later ∙ ap (λ (j : Memory). with_writes j ps) first ∙ ap (λ (bytes : ℕ → ℕ). record m { bytes = bytes }) (sym (stored-cons m.bytes p ps))

not_put : (s b c : Bool) → ((s && not (b || false)) && not c) ≡ (s && not (b || c))
not_put s b c = grind arith

wrote_twice : (f : Frames) (p : ℕ × ℕ) (ps : List (ℕ × ℕ)) → wrote (wrote f (p ∷ [])) ps ≡ wrote f (p ∷ ps)
unfolding is_put
wrote_twice f p ps = λ i. record f { soft = λ x. not_put (f.soft x) (x == p.0) (is_put ps x) i }

pub then_frames : (f g h : Frames) (p : ℕ × ℕ) (ps : List (ℕ × ℕ)) → g ≡ wrote f (p ∷ []) → h ≡ wrote g ps → h ≡ wrote f (p ∷ ps)
then_frames f g h p ps first later = later ∙ ap (λ (j : Frames). wrote j ps) first ∙ wrote_twice f p ps

-- ---- room

room_at : (m : Kept) (table k a : ℕ) → HasRoom m table PENDING_SIZE → k < PENDING_SIZE → a ≡ wrapped (table + k) → HasRoom m a 1
room_at m table k a room few e = λ j h. let at : wrapped (table + k) ≡ wrapped (a + j) = omega arith in subst (IsReserved m) at (room k few)

pub priority_room : (m : Kept) (table v a : ℕ) → v < 256 → HasRoom m table PENDING_SIZE → a ≡ priority_place table v → HasRoom m a 1
priority_room m table v a small room e = room_at m table (v / 8 / 8) a room (omega arith) e

pub pending_room : (m : Kept) (table v a : ℕ) → v < 256 → HasRoom m table PENDING_SIZE → a ≡ pending_place table v → HasRoom m a 1
pending_room m table v a small room e = room_at m table (PENDING_VECTORS + v / 8) a room (omega arith) e

pub room_kept : (m n : Kept) (a : ℕ) → HasRoom m a 1 → KeepsRoom m n → HasRoom n a 1
room_kept m n a room keeps = λ k h. keeps (wrapped (a + k)) (room k h)

-- ---- no bytes

pub no_frame_writes : (f : Frames) → f ≡ wrote f []
no_frame_writes f = sym (none_wrote f)

pub nothing_cleared : (cause : Cause) (m : Memory) (table v : ℕ) → (cause ≡ Nmi) ⊎ ((k : ℕ) × (cause ≡ Line k)) → clearing_writes cause m table v ≡ []
nothing_cleared cause m table v is = grind arith

-- ---- what is written where a vector is taken

module _ (m : Memory) (table v : ℕ) where
  abbrev pub priority_write : ℕ × ℕ
  priority_write = (priority_place table v, without_bit (m.bytes (priority_place table v)) (vector_priority v % 8))

  abbrev pub pending_write : ℕ × ℕ
  pending_write = (pending_place table v, left_pending m table v)

  pub taken_last : left_pending m table v ≡ 0 → taken_writes m table v ≡ priority_write ∷ pending_write ∷ []
  unfolding taken_writes
  taken_last e = ap (λ (b : Bool). (if b then priority_write ∷ [] else []) ++ pending_write ∷ []) (eq-eqb (left_pending m table v) 0 e)

  pub taken_others : (left_pending m table v ≡ 0 → ⊥) → taken_writes m table v ≡ pending_write ∷ []
  unfolding taken_writes
  taken_others ne = ap (λ (b : Bool). (if b then priority_write ∷ [] else []) ++ pending_write ∷ []) (ne_eqb (left_pending m table v) 0 ne)

  -- both bytes in a list, or the one
  pub both_listed : (a x b y : ℕ) (none one two : List (ℕ × ℕ)) → none ≡ [] → one ≡ none ++ (a, x) ∷ [] → two ≡ one ++ (b, y) ∷ []
      → a ≡ priority_place table v → x ≡ without_bit (m.bytes a) (v / 8 % 8) → b ≡ pending_place table v → y ≡ without_bit (m.bytes b) (v % 8) → y ≡ 0 → two ≡ taken_writes m table v
  both_listed a x b y none one two empty first last at old place left zero =
      let both : two ≡ priority_write ∷ pending_write ∷ [] = cc in
      both ∙ sym (taken_last (cc))

  pub one_listed : (b y : ℕ) (none one : List (ℕ × ℕ)) → none ≡ [] → one ≡ none ++ (b, y) ∷ [] → b ≡ pending_place table v → y ≡ without_bit (m.bytes b) (v % 8) → (y ≡ 0 → ⊥) → one ≡ taken_writes m table v
  one_listed b y none one empty last place left some =
      let alone : one ≡ pending_write ∷ [] = cc in
      alone ∙ sym (taken_others (λ e. some (cc)))

-- ---- what is planned of a request, and then stored

module _ (m : Memory) (table v : ℕ) (h : Option ℕ) (ps : List (ℕ × ℕ)) (is : Ok ps ≡ unless h (request_writes m table v)) where
  planned : ps ≡ request_writes m table v
  planned = sym (unless_ok h (request_writes m table v) ps (sym is)).1

  pub planned_priority : (get_or ps 0 (0, 0)).0 ≡ priority_place table v
  unfolding request_writes
  planned_priority = ap (λ (qs : List (ℕ × ℕ)). (get_or qs 0 (0, 0)).0) planned

  pub planned_pending : (get_or ps 1 (0, 0)).0 ≡ pending_place table v
  unfolding request_writes
  planned_pending = ap (λ (qs : List (ℕ × ℕ)). (get_or qs 1 (0, 0)).0) planned

  both : get_or ps 0 (0, 0) ∷ get_or ps 1 (0, 0) ∷ [] ≡ request_writes m table v
  unfolding request_writes
  both = ap (λ (qs : List (ℕ × ℕ)). get_or qs 0 (0, 0) ∷ get_or qs 1 (0, 0) ∷ []) planned

  pub planned_memory : (k n : Memory) → k ≡ with_writes m (get_or ps 0 (0, 0) ∷ []) → n ≡ with_writes k (get_or ps 1 (0, 0) ∷ []) → n ≡ with_writes m (request_writes m table v)
  planned_memory k n first last = then_memory m k n (get_or ps 0 (0, 0)) (get_or ps 1 (0, 0) ∷ []) first last ∙ ap (with_writes m) both

  pub planned_frames : (f g e : Frames) → g ≡ wrote f (get_or ps 0 (0, 0) ∷ []) → e ≡ wrote g (get_or ps 1 (0, 0) ∷ []) → e ≡ wrote f (request_writes m table v)
  planned_frames f g e first last = then_frames f g e (get_or ps 0 (0, 0)) (get_or ps 1 (0, 0) ∷ []) first last ∙ ap (wrote f) both
