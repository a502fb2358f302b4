-- Frames held in sets, and the memory behind them: what each record of a run makes of both.
use Rattle.std.specs.Prelude.{◌≡◌, ℕ, ◌+◌, ◌-◌, ◌*◌, ◌^◌, ◌<◌, nat_lt, if◌then◌else◌, Option, unwrap_or, List, [], ◌∷◌}
use Rattle.std.specs.Prelude.{◌++◌, length, take, get_or}
use Rattle.std.specs.List.{AllByRecursion}
use Rattle.i9_model.specs.declared.layout.TheConstants.{LOCALS}
use Rattle.i9_model.specs.declared.frame.Frame.{Frame}
use Rattle.i9_model.specs.Writes.{address_count, wrapped}
use Rattle.i9_model.specs.Memory.{Memory, word_in, with_writes, with_words}
use Rattle.i9_model.specs.State.{State, boot}
use Rattle.i9_model.specs.Boot.{setup_of}
use Rattle.i9_model.specs.Controls.{Control, KeepsControls, Restarts, LoadsGroup}
use Rattle.i9_model.specs.Step.{Move, Stays, Saves, Returns, Flushes, Action}
use Rattle.i9_model.specs.Run.{Given, Record, action_done}
use Rattle.i9_model.specs.Alike.{is_compared, AgreeWhere}

-- the frames that are held, the oldest first, and the memory behind them
pub record Cache : Type 0 where
  pub held : List Frame
  pub behind : Memory

abbrev pub cache : List Frame → Memory → Cache
cache held behind = record { held = held; behind = behind }

abbrev pub frame_at : ℕ → List ℕ → Frame
frame_at address words = record { address = address; words = words }

-- frames laid over a memory, the oldest first
unfoldable pub over : List Frame → Memory → Memory
over [] m = m
over (f ∷ fs) m = over fs (with_words m f.address f.words)

-- memory with the held frames laid over it
abbrev pub overlaid : Cache → Memory
overlaid c = over c.held c.behind

-- the oldest frame goes to memory
abbrev pub spilled : List Frame → Memory → Cache
spilled [] m = cache [] m
spilled (f ∷ fs) m = cache fs (with_words m f.address f.words)

-- there is a set to spare: where all n are taken, the oldest frame is spilled
abbrev pub with_room : ℕ → Cache → Cache
with_room n c = if nat_lt (length c.held) n then c else spilled c.held c.behind

-- a frame is held in one of n sets
abbrev pub holding : ℕ → Frame → Cache → Cache
holding n f c = record (with_room n c) { held = (with_room n c).held ++ f ∷ [] }

-- the youngest frame is taken, where one is held
abbrev pub taken : Cache → Cache
taken c = record c { held = take (length c.held - 1) c.held }

-- all frames go to memory
abbrev pub written_back : Cache → Cache
written_back c = cache [] (overlaid c)

-- what a move makes of them, with n sets
abbrev pub cache_moved : ℕ → Move → Cache → Cache
cache_moved n Stays c = c
cache_moved n (Saves save words) c = holding n (frame_at save words) c
cache_moved n Returns c = taken c
cache_moved n Flushes c = written_back c

-- bytes are written behind them
abbrev pub cache_stored : List (ℕ × ℕ) → Cache → Cache
cache_stored ps c = record c { behind = with_writes c.behind ps }

-- what an action makes of them, with n sets
abbrev pub cache_acted : ℕ → Action → Cache → Cache
cache_acted n a c = cache_stored a.writes (cache_moved n a.move c)

-- regions get the configuration words of a memory
abbrev pub cache_configured : Memory → Cache → Cache
cache_configured m c = record c { behind = record c.behind { mcon = m.mcon } }

-- ---- along a run

-- the number of sets: the one that is asked for, or the one of the PRCB
abbrev pub sets_in : Option ℕ → State → ℕ
sets_in asked s = unwrap_or asked s.tables.sets

-- the number of sets after what is done to controls: a start anew goes by the PRCB that it reads
abbrev pub renewed : Option ℕ → Memory → Control → ℕ → ℕ
renewed asked m KeepsControls n = n
renewed asked m (Restarts first prcb) n = unwrap_or asked (setup_of m first prcb).sets
renewed asked m (LoadsGroup group) n = n

-- what is held after the records of a run, and what is behind
abbrev pub cache_after : Given → List Record → Cache
cache_after g [] = cache [] (boot g.image).memory
cache_after g (r ∷ rs) = cache_configured r.after.memory
    (cache_acted (sets_in g.sets r.before) (action_done r) (cache_after g rs))

-- ---- what they stand for

-- the save addresses, the youngest first
abbrev pub youngest_first : List Frame → List ℕ
youngest_first [] = []
youngest_first (f ∷ fs) = youngest_first fs ++ f.address ∷ []

-- each frame has all its words
abbrev pub AreWhole : List Frame → Type 0
AreWhole held = AllByRecursion (λ f. length f.words ≡ LOCALS) held

-- the held frames are the youngest of these live ones
pub record AreYoungest (held : List Frame) (live : List ℕ) : Type 0 where
  pub first : youngest_first held ≡ take (length held) live
  pub whole : AreWhole held

-- The frames that are held and the memory behind them stand for the memory of a state: laid over one another they
-- are its memory as far as that is compared, with its configuration words, and the frames are its youngest live
-- ones.
pub record IsCached (s : State) (c : Cache) : Type 0 where
  pub bytes : AgreeWhere (is_compared s.frames) s.memory (overlaid c).bytes
  pub regions : c.behind.mcon ≡ s.memory.mcon
  pub youngest : AreYoungest c.held s.frames.live

-- the words of a frame stand in memory at its address; memory has words of 32 bits
abbrev pub IsInMemory : Memory → Frame → Type 0
IsInMemory m f = f.address < address_count → (k : ℕ) → k < LOCALS → get_or f.words k 0 < 2 ^ 32
    → word_in m (wrapped (f.address + 4 * k)) ≡ get_or f.words k 0

abbrev pub AreInMemory : Memory → List Frame → Type 0
AreInMemory m held = AllByRecursion (IsInMemory m) held
