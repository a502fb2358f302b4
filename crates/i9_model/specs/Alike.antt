-- States that are alike: the same but for the bytes of memory that are not compared.
use Rattle.std.specs.Prelude.{◌≡◌, ℕ, Bool, true, false, not, ◌||◌, ◌==◌, if◌then◌else◌, nat_le, List, [], ◌∷◌, Option}
use Rattle.std.specs.Prelude.{Some, None}
use Rattle.i9_model.specs.Writes.{address_count, wrapped}
use Rattle.i9_model.specs.Memory.{Memory, in_port_page, console_byte}
use Rattle.i9_model.specs.State.{State, Frames}
use Rattle.i9_model.specs.Frames.{in_frames, has}
use Rattle.i9_model.specs.Stale.{picked, byte_marks}
use Rattle.i9_model.specs.Step.{Move, Stays, Saves, Returns, Flushes, Action, first_word, next_word}
use Rattle.i9_isa.specs.Words.{words_of}
use Rattle.i9_model.specs.Run.{Kind, Instruction, Faulted, Entered, Interrupted, Reached, Record, Next, Does, Ends}
use Rattle.i9_model.specs.Run.{faulted_words, action_by_kind, due_by}
use Rattle.i9_model.specs.Access.{Access, access_of}

-- no frame can have a byte here
abbrev pub is_beyond : ℕ → Bool
is_beyond x = in_port_page x || nat_le address_count x

-- a byte that may be read
abbrev pub is_hard : Frames → ℕ → Bool
is_hard f x = is_beyond x || not (f.soft x)

-- a byte that is compared: it may be read, or is in a live frame
abbrev pub is_compared : Frames → ℕ → Bool
is_compared f x = is_hard f x || in_frames f.live x

-- these bytes are a memory's, as far as a test goes
abbrev pub AgreeWhere : (ℕ → Bool) → Memory → (ℕ → ℕ) → Type 0
AgreeWhere test m bytes = (x : ℕ) → test x ≡ true → bytes x ≡ m.bytes x

-- a memory and a state with other bytes
abbrev pub with_other : Memory → (ℕ → ℕ) → Memory
with_other m bytes = record m { bytes = bytes }

abbrev pub with_memory : State → (ℕ → ℕ) → State
with_memory s bytes = record s { memory = with_other s.memory bytes }

-- the second state is the first one, but for bytes that are not compared
pub record AreAlike (s t : State) : Type 0 where
  pub rest : t ≡ with_memory s t.memory.bytes
  pub bytes : AgreeWhere (is_compared s.frames) s.memory t.memory.bytes

-- ---- states that agree but for stale values

-- Whether marks hide what has them. Where they do not, states are compared in all their registers and in all bytes of
-- live frames: so two machines that read soft bytes alike are compared. Where they do, states of machines that read
-- soft bytes in two ways are.
abbrev pub shows : Bool → Bool → Bool
shows hides mark = if hides then not mark else true

-- a byte that is compared: it may be read, or is in a live frame, and not in a marked word where marks hide
abbrev pub is_open : Bool → Frames → ℕ → Bool
is_open hides f x = is_hard f x || (if shows hides (f.marked x) then in_frames f.live x else false)

-- a state with other values in registers, other bytes, and another way to read soft ones
abbrev pub with_values : State → (ℕ → ℕ) → (ℕ → ℕ) → (ℕ → ℕ) → State
with_values s regs bytes reading = record s { regs = regs; memory = with_other s.memory bytes; reading = reading }

-- these registers are a state's, but for those that marks hide
abbrev pub AgreeBeside : Bool → State → (ℕ → ℕ) → Type 0
AgreeBeside hides s regs = (r : ℕ) → shows hides (s.marks r) ≡ true → regs r ≡ s.regs r

-- soft bytes are read in one way, whatever memory holds there, where marks do not hide
abbrev pub ReadAlike : Bool → State → (ℕ → ℕ) → Type 0
ReadAlike hides s reading = hides ≡ false → (x y : ℕ) → reading x ≡ s.reading y

-- the second state is the first one, but for values that marks hide and bytes that are not compared
pub record Agree (hides : Bool) (s t : State) : Type 0 where
  pub rest : t ≡ with_values s t.regs t.memory.bytes t.reading
  pub regs : AgreeBeside hides s t.regs
  pub bytes : AgreeWhere (is_open hides s.frames) s.memory t.memory.bytes
  pub reading : ReadAlike hides s t.reading

-- values beside their marks are the same, but for those that marks hide
abbrev pub AreValuesAlike : Bool → List Bool → List ℕ → List ℕ → Type 0
AreValuesAlike hides [] [] [] = Unit {0}
AreValuesAlike hides (b ∷ bs) (v ∷ vs) (w ∷ ws) = (shows hides b ≡ true → w ≡ v) × AreValuesAlike hides bs vs ws
AreValuesAlike hides bs vs ws = ⊥

-- writes at the same places, with the same values but for those that marks hide
abbrev pub AreWritesAlike : Bool → List ℕ → List (ℕ × ℕ) → List (ℕ × ℕ) → Type 0
AreWritesAlike hides marked [] [] = Unit {0}
AreWritesAlike hides marked (p ∷ ps) (q ∷ qs) = (q.0 ≡ p.0) × (shows hides (has marked p.0) ≡ true → q.1 ≡ p.1)
    × AreWritesAlike hides marked ps qs
AreWritesAlike hides marked ps qs = ⊥

-- the same is done to frames, and a frame that is saved has the same words but for marked ones
abbrev pub AreMovesAlike : Bool → List ℕ → Move → Move → Type 0
AreMovesAlike hides lost (Saves a vs) (Saves b ws) =
    (b ≡ a) × ((bs : List Bool) × (lost ≡ picked wrapped a (byte_marks bs)) × AreValuesAlike hides bs vs ws)
AreMovesAlike hides lost Stays w = w ≡ Stays
AreMovesAlike hides lost Returns w = w ≡ Returns
AreMovesAlike hides lost Flushes w = w ≡ Flushes
AreMovesAlike hides lost (Saves a vs) w = ⊥

-- the second action is the first one, but for values that marks hide
pub record AreActionsAlike (hides : Bool) (a b : Action) : Type 0 where
  pub rest : b ≡ record a { sets = b.sets; writes = b.writes; move = b.move }
  pub sets : AreWritesAlike hides a.marked a.sets b.sets
  pub writes : AreWritesAlike hides a.stale a.writes b.writes
  pub move : AreMovesAlike hides a.lost a.move b.move

-- the words of an instruction of so many, the second one as 0 where there is none
abbrev pub told_words : ℕ → State → ℕ × ℕ
told_words words s = (first_word s, if words == 2 then next_word s else 0)

-- the words of an instruction that is done or faults
abbrev pub told : Kind → State → ℕ × ℕ
told (Instruction i) s = told_words (words_of i) s
told (Faulted inst fault) s = told_words (faulted_words inst) s
told (Entered e) s = (0, 0)
told (Interrupted c e) s = (0, 0)
told (Reached e u) s = (0, 0)

-- a record of the same kind and the same words, which does the same between states that are alike
pub record AreRecordsAlike (r q : Record) : Type 0 where
  pub kind : q.kind ≡ r.kind
  pub before : AreAlike r.before q.before
  pub words : told r.kind q.before ≡ told r.kind r.before
  pub action : action_by_kind r.kind q.before ≡ action_by_kind r.kind r.before
  pub after : AreAlike r.after q.after

-- such a record, or the same end
abbrev pub AreNextAlike : Next → Next → Type 0
AreNextAlike (Does r) (Does q) = AreRecordsAlike r q
AreNextAlike (Ends f) (Ends g) = g ≡ f
AreNextAlike (Does r) (Ends g) = ⊥
AreNextAlike (Ends f) (Does q) = ⊥

-- the access of an instruction that is done or faults
abbrev pub access_by_kind : Kind → State → Option Access
access_by_kind (Instruction i) s = Some (access_of i s)
access_by_kind (Faulted (Some i) fault) s = Some (access_of i s)
access_by_kind _ s = None

-- records of the same kind and the same words, of actions that are alike, between states that agree; their accesses are
-- the same, the same is due after them, and the same byte goes to the console
pub record DoAgree (hides : Bool) (r q : Record) : Type 0 where
  pub kind : q.kind ≡ r.kind
  pub before : Agree hides r.before q.before
  pub words : told r.kind q.before ≡ told r.kind r.before
  pub action : AreActionsAlike hides (action_by_kind r.kind r.before) (action_by_kind r.kind q.before)
  pub after : Agree hides r.after q.after
  pub access : access_by_kind r.kind q.before ≡ access_by_kind r.kind r.before
  pub due : due_by r.kind q.before ≡ due_by r.kind r.before
  pub out : console_byte (action_by_kind r.kind q.before).writes ≡ console_byte (action_by_kind r.kind r.before).writes

-- such records, or the same end
abbrev pub NextsAgree : Bool → Next → Next → Type 0
NextsAgree hides (Does r) (Does q) = DoAgree hides r q
NextsAgree hides (Ends f) (Ends g) = g ≡ f
NextsAgree hides (Does r) (Ends g) = ⊥
NextsAgree hides (Ends f) (Does q) = ⊥
