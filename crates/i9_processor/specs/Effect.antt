-- An effect as the action of the definitions, and where it can be applied.
use Rattle.std.specs.Prelude.{◌≡◌, ◌≢◌, ℕ, ◌+◌, ◌<◌, ◌≤◌, ◌%◌, ◌^◌, ◌⊎◌, Bool, true, false, ◌||◌, nat_lt, List, [], ◌∷◌}
use Rattle.std.specs.Prelude.{◌++◌, length, Option, None, Some, unwrap_or}
use Rattle.std.specs.List.{AllByRecursion}
use Rattle.i9_model.specs.declared.layout.TheConstants.{LOCALS, PORT_PAGE}
use Rattle.i9_model.specs.Writes.{wrapped, pairs_at, upwards, last_put}
use Rattle.i9_model.specs.Memory.{Memory, words_in}
use Rattle.i9_model.specs.Boot.{setup_of}
use Rattle.i9_model.specs.declared.interrupts.TheConstants.{FIRST_DMA_LINE}
use Rattle.i9_model.specs.State.{State, Frames, Interrupts, Dma, frame_sets}
use Rattle.i9_model.specs.Stale.{picked, byte_marks, saved_marks, left_memory}
use Rattle.i9_model.specs.Dma.{set_up, dma_behind}
use Rattle.i9_model.specs.Operands.{with_pending, with_mask, with_command}
use Rattle.i9_model.specs.Interrupts.{posted, posted_nmi, cleared}
use Rattle.i9_ints.specs.Ints.{with_level}
use Rattle.i9_model.specs.Hazards.{save_hazard}
use Rattle.i9_model.specs.Tables.{tables_hazard, group_hazard}
use Rattle.i9_model.specs.HeldFrames.{Cache, cache_acted, cache_configured}
use Rattle.i9_model.specs.Controls as plain_controls
use Rattle.i9_model.specs.Step as plain
use Rattle.i9_frames.specs.Sets.{Held, held}
use Rattle.i9_storage.specs.declared.storage.Storage.{Storage}
use Rattle.i9_watch.specs.Bits.{bits_of}
use Rattle.i9_storage.specs.Storage.{HasSpace, HasSoftSpace, HasFrameSpace}
use Rattle.i9_processor.specs.declared.effect.Move.{Move}
use Rattle.i9_processor.specs.declared.effect.Move.TheVariants as moves
use Rattle.i9_processor.specs.declared.effect.Requests.{Requests}
use Rattle.i9_processor.specs.declared.effect.Posting.{Posting}
use Rattle.i9_processor.specs.declared.effect.Posting.TheVariants as postings
use Rattle.i9_dma.specs.Channels.{channel_of}
use Rattle.i9_processor.specs.declared.effect.DmaChange.{DmaChange}
use Rattle.i9_processor.specs.declared.effect.DmaChange.TheVariants as changes
use Rattle.i9_processor.specs.declared.effect.Control.{Control}
use Rattle.i9_processor.specs.declared.effect.Control.TheVariants as controls
use Rattle.i9_processor.specs.declared.effect.Effect.{Effect}
use Rattle.i9_processor.specs.Rest.{no_requests}
use Rattle.i9_processor.specs.declared.processor.Processor.{Processor}
use Rattle.i9_processor.specs.State.{state_of, cache_of, size_of, queue_of, IsDrained}
use Rattle.i9_processor.specs.declared.landing.Landing.{Landing}

-- what is done to frames in a state, whose locals are saved
abbrev pub move_in : State → Move → plain.Move
move_in s moves.Stays = plain.Stays
move_in s (moves.Saves push back) = plain.Saves push.save (plain.saved_locals s back)
move_in s (moves.Returns frame) = plain.Returns
move_in s moves.Flushes = plain.Flushes

-- the registers that are set: those of a frame that is entered, or else a group where frames stay
abbrev pub sets_by : State → Move → List (ℕ × ℕ) → List (ℕ × ℕ)
sets_by s moves.Stays group = group
sets_by s (moves.Saves push back) group = plain.push_sets push
sets_by s (moves.Returns frame) group = frame_sets (words_in (left_memory s.frames.live s) frame LOCALS) frame
sets_by s moves.Flushes group = []

abbrev pub control_in : Control → plain_controls.Control
control_in controls.Keeps = plain_controls.KeepsControls
control_in (controls.Restarts first prcb) = plain_controls.Restarts first prcb
control_in (controls.LoadsGroup group) = plain_controls.LoadsGroup group

-- the group of registers that an effect sets
abbrev pub group_in : Effect → List (ℕ × ℕ)
group_in e = pairs_at (λ r. r) e.register e.values.items

abbrev pub sets_in : State → Effect → List (ℕ × ℕ)
sets_in s e = sets_by s e.frames (group_in e)

-- ---- marks

-- of the registers that are set, those that get marks, by bits: values of a group, or the locals of a frame that is
-- returned to
abbrev pub marked_by : Move → ℕ → ℕ → ℕ → List ℕ
marked_by moves.Stays first count marks = picked (λ r. r) first (bits_of marks count)
marked_by (moves.Saves push back) first count marks = []
marked_by (moves.Returns frame) first count marks = picked (λ r. r) 0 (bits_of marks LOCALS)
marked_by moves.Flushes first count marks = []

abbrev pub marked_in : Effect → List ℕ
marked_in e = marked_by e.frames e.register (length e.values.items) e.marks

-- of the bytes in a row, those that get marks
abbrev pub stale_in : Effect → List ℕ
stale_in e = picked wrapped e.address (bits_of e.stale (length e.bytes.items))

-- of a frame that is saved, the bytes with the marks of its words
abbrev pub lost_by : State → Move → List ℕ
lost_by s moves.Stays = []
lost_by s (moves.Saves push back) = picked wrapped push.save (byte_marks (saved_marks s))
lost_by s (moves.Returns frame) = []
lost_by s moves.Flushes = []

-- ---- interrupts and DMA

-- what is done to interrupts
abbrev pub posting_in : Posting → Interrupts → Interrupts
posting_in postings.Keeps i = i
posting_in (postings.Pin x) i = posted i x
posting_in (postings.Level x low) i = with_level i x low
posting_in (postings.Dma c) i = posted i (FIRST_DMA_LINE + c)
posting_in postings.Nmi i = posted_nmi i
posting_in (postings.Clears c) i = cleared c i
posting_in (postings.Pending v) i = with_pending i v
posting_in (postings.Mask v) i = with_mask i v

-- what is done to DMA
abbrev pub change_in : DmaChange → Dma → Dma
change_in changes.Keeps d = d
change_in (changes.Command v) d = with_command d v
change_in (changes.SetsUp c channel) d = set_up d c (channel_of channel)
change_in (changes.Passes c) d = dma_behind d c

-- bytes with bits of requests, each with its address
abbrev pub one_in : Option (ℕ × ℕ) → List (ℕ × ℕ)
one_in None = []
one_in (Some p) = p ∷ []

abbrev pub requests_in : Requests → List (ℕ × ℕ)
requests_in r = one_in r.first ++ one_in r.second

-- the bytes in a row that an effect stores, and those with bits of requests behind them
abbrev pub run_in : Effect → List (ℕ × ℕ)
run_in e = upwards e.address e.bytes.items

abbrev pub writes_in : Effect → List (ℕ × ℕ)
writes_in e = run_in e ++ requests_in e.requests

-- none of these writes is in the port page or above it
abbrev pub AreBelowPort : List (ℕ × ℕ) → Type 0
AreBelowPort ps = (x : ℕ) → PORT_PAGE ≤ x → x < 2 ^ 32 → last_put ps x ≡ None

-- the action of an effect in a state
abbrev pub action_in : State → Effect → plain.Action
action_in s e = record {
  sets = sets_in s e;
  writes = writes_in e;
  move = move_in s e.frames;
  ac = e.ac;
  pc = e.pc;
  tc = e.tc;
  check = e.check;
  interrupts = posting_in e.posting s.interrupts;
  dma = change_in e.dma s.dma;
  control = control_in e.control;
  next = e.next;
  trace = e.trace;
  marked = marked_in e;
  stale = stale_in e;
  lost = lost_by s e.frames;
}

-- its group is one of the 32 registers
abbrev pub AreRegisters : Effect → Type 0
AreRegisters e = e.register + length e.values.items ≤ 32

-- a pin is one of eight, and a channel one of four
abbrev pub CanPost : Posting → Type 0
CanPost (postings.Pin x) = x < 8
CanPost (postings.Level x low) = x < 8
CanPost (postings.Dma c) = c < 4
CanPost _ = Unit {0}

abbrev pub CanChange : DmaChange → Type 0
CanChange (changes.SetsUp c channel) = c < 4
CanChange (changes.Passes c) = c < 4
CanChange _ = Unit {0}

-- a frame that is saved meets no hazard
abbrev pub CanMove : Frames → Move → Type 0
CanMove s moves.Stays = Unit {0}
CanMove s (moves.Saves push back) = (push.save % 16 ≡ 0) × (save_hazard s push.save ≡ None)
CanMove s (moves.Returns frame) = Unit {0}
CanMove s moves.Flushes = Unit {0}

-- the tables that are read in a state meet no hazard
abbrev pub CanControl : State → Control → Type 0
CanControl s controls.Keeps = Unit {0}
CanControl s (controls.Restarts first prcb) = tables_hazard s.memory s.frames prcb ≡ None
CanControl s (controls.LoadsGroup group) = (group < 7) × (group_hazard s.frames s.tables.control_table group ≡ None)

-- an effect is this action, and can be applied in a state
pub record IsEffect (s : State) (action : plain.Action) (e : Effect) : Type 0 where
  pub same : action_in s e ≡ action
  pub registers : AreRegisters e
  pub posts : CanPost e.posting
  pub changes : CanChange e.dma
  pub moves : CanMove s.frames e.frames
  pub controls : CanControl (plain.moved s action) e.control

-- an effect sets registers at most, none of them with a mark: it stores nothing, and frames, interrupts, DMA and the
-- controls that start-up reads stay
pub record SetsOnly (e : Effect) : Type 0 where
  pub marks : e.marks ≡ 0
  pub bytes : e.bytes.items ≡ []
  pub stale : e.stale ≡ 0
  pub requests : e.requests ≡ no_requests
  pub frames : e.frames ≡ moves.Stays
  pub posting : e.posting ≡ postings.Keeps
  pub dma : e.dma ≡ changes.Keeps
  pub control : e.control ≡ controls.Keeps

-- an effect is told to be plain, and stores no byte
pub record IsLight (e : Effect) : Type 0 where
  pub plain : e.plain ≡ true
  pub bytes : length e.bytes.items ≡ 0

-- ---- room

-- there is room for what is done to frames
abbrev pub HasMoveSpace : Storage → Move → Type 0
HasMoveSpace s moves.Stays = Unit {0}
HasMoveSpace s (moves.Saves push back) = HasFrameSpace s push.save
HasMoveSpace s (moves.Returns frame) = Unit {0}
HasMoveSpace s moves.Flushes = Unit {0}

-- there is room for each of these bytes
abbrev pub AreSpacious : Storage → List (ℕ × ℕ) → Type 0
AreSpacious s ps = AllByRecursion (λ w. HasSpace s w.0 1) ps

-- there is room for the bytes in a row of an effect, and for their marks where some get marks
pub record HasRunSpace (s : Storage) (e : Effect) : Type 0 where
  pub bytes : HasSpace s e.address (length e.bytes.items)
  pub soft : e.stale ≢ 0 → HasSoftSpace s e.address (length e.bytes.items)

-- there is room for what an effect stores and saves
pub record HasSpaceFor (p : Processor) (e : Effect) : Type 0 where
  pub run : HasRunSpace p.storage e
  pub requests : AreSpacious p.storage (requests_in e.requests)
  pub frames : HasMoveSpace p.storage e.frames

-- a frame can be saved where a move saves one
abbrev pub HasRoomToMove : Storage → plain.Move → Type 0
HasRoomToMove s plain.Stays = Unit {0}
HasRoomToMove s (plain.Saves save words) = HasFrameSpace s save
HasRoomToMove s plain.Returns = Unit {0}
HasRoomToMove s plain.Flushes = Unit {0}

-- each of these bytes can be marked
abbrev pub AreMarkable : Storage → List (ℕ × ℕ) → Type 0
AreMarkable s ps = AllByRecursion (λ w. HasSoftSpace s w.0 1) ps

-- there is room for each byte that an action writes, for their marks where some get one, and for the frame that it
-- saves
pub record HasRoomFor (p : Processor) (a : plain.Action) : Type 0 where
  pub bytes : AreSpacious p.storage a.writes
  pub soft : a.stale ≢ [] → AreMarkable p.storage a.writes
  pub frames : HasRoomToMove p.storage a.move

-- where there was room for an action there still is
abbrev pub KeepsRoom : Processor → Processor → Type 0
KeepsRoom old new = (a : plain.Action) → HasRoomFor old a → HasRoomFor new a

-- a frame is saved
abbrev pub is_costly : plain.Move → Bool
is_costly plain.Stays = false
is_costly (plain.Saves save words) = true
is_costly plain.Returns = false
is_costly plain.Flushes = false

-- something is stored or saved
abbrev pub has_writes : plain.Action → Bool
has_writes a = nat_lt 0 (length a.writes) || is_costly a.move

-- the processor starts anew
abbrev pub is_restart : plain_controls.Control → Bool
is_restart plain_controls.KeepsControls = false
is_restart (plain_controls.Restarts first prcb) = true
is_restart (plain_controls.LoadsGroup group) = false

-- ---- the frames in sets

-- nothing is held where something is done to the controls
abbrev pub IsEmptied : Cache → Control → Type 0
IsEmptied c controls.Keeps = Unit {0}
IsEmptied c (controls.Restarts first prcb) = c.held ≡ []
IsEmptied c (controls.LoadsGroup group) = c.held ≡ []

-- what is held and what is behind after an action, with the configuration words that memory has then
abbrev pub cache_through : Processor → plain.Action → Processor → Cache
cache_through old a new = cache_configured (state_of new).memory (cache_acted (size_of old) a (cache_of old))

-- New sets are made where the processor starts anew: as many as are asked for, or as the PRCB asks for that is read
-- in a memory.
abbrev pub AreMade : Option ℕ → Memory → Control → Option Held → Type 0
AreMade asked m controls.Keeps made = made ≡ None
AreMade asked m (controls.Restarts first prcb) made = made
    ≡ Some (held (unwrap_or asked (setup_of m first prcb).sets) [])
AreMade asked m (controls.LoadsGroup group) made = made ≡ None

-- nothing is stored, and frames and the controls that start-up reads stay
pub record IsStill (a : plain.Action) : Type 0 where
  pub writes : a.writes ≡ []
  pub move : a.move ≡ plain.Stays
  pub control : a.control ≡ plain_controls.KeepsControls

-- What is done can wait as a request that is done at a turn: its bytes stand in a row, frames and controls stay, fewer
-- than three requests wait, and they are due no later.
pub record CanWait (p : Processor) (done : ℕ) (e : Effect) : Type 0 where
  pub row : e.requests ≡ no_requests
  pub move : e.frames ≡ Move.Stays
  pub control : e.control ≡ Control.Keeps
  pub few : length (queue_of p) < 3
  pub order : AllByRecursion (λ w. w.due ≤ done) (queue_of p)

-- What is done either waits as a request, or acts at once where nothing waits, or stores nothing.
abbrev pub CanAct : Processor → Landing → Effect → Type 0
CanAct p l e =
    (l.request ≡ true → CanWait p l.done e)
    × (l.request ≡ false → IsDrained p ⊎ IsStill (action_in (state_of p) e))

-- new sets take the place of the others behind a flush, and hold nothing
abbrev pub CanTake : plain.Move → Option Held → Type 0
CanTake v None = Unit {0}
CanTake v (Some h) = (v ≡ plain.Flushes) × (h.frames ≡ [])

-- the number of sets with such new ones, where there are any
abbrev pub size_with : Option Held → ℕ → ℕ
size_with None n = n
size_with (Some h) n = h.size
