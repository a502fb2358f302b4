-- The printed text of a run: its lines, and their bytes.
use Rattle.std.specs.Prelude.{ℕ, ◌+◌, ◌==◌, if◌then◌else◌, Option, Some, None, List, [], ◌∷◌, ◌++◌, codes, map}
use Rattle.std.specs.Prelude.{slice_index}
use Rattle.std.specs.Fmt.{decimal}
use Rattle.std.specs.List.{flat_map, range_with_len}
use Rattle.i9_isa.specs.Words.{bit}
use Rattle.i9_text.specs.Written.{word_text, byte_text}
use Rattle.i9_model.specs.declared.view.View.{View}
use Rattle.i9_model.specs.declared.event.Event.{Event}
use Rattle.i9_model.specs.declared.event.Event.TheVariants.{Pin, Low, High, Nmi, Dma, Feed, Show}
use Rattle.i9_model.specs.declared.event.Timed.{Timed}
use Rattle.i9_model.specs.Writes.{wrapped}
use Rattle.i9_model.specs.Memory.{console_byte}
use Rattle.i9_model.specs.Overlay.{overlay}
use Rattle.i9_model.specs.Needs.{set_below}
use Rattle.i9_model.specs.Events.{journal_text}
use Rattle.i9_model.specs.ScheduleText.{levels_version, timed_at}
use Rattle.i9_model.specs.State.{State}
use Rattle.i9_model.specs.Run.{Given, Point, End, Exit, Limit, Hazard, Dead, Imprecise, Finish, Kind, Instruction}
use Rattle.i9_model.specs.Run.{Faulted, Entered, Interrupted, Reached, Record, point_of, action_done, state_after}
use Rattle.i9_model.specs.declared.run.Point.TheVariants as points

-- a printed line; a drained point has three
pub data Shown : Type 0 where
  Out : (byte : ℕ) → Shown
  Drained : (kind : Point) → (view : View) → Shown
  Journal : (count : ℕ) → (event : Event) → Shown
  Bytes : (address : ℕ) → (list : List (Option ℕ)) → Shown
  Last : (end : End) → Shown

-- the 32 registers in order
unfoldable pub register_list : (ℕ → ℕ) → List ℕ
register_list regs = map regs (range_with_len 0 32)

-- what is shown of a state, with the marks of its registers as a number
abbrev pub view_of : State → View
view_of s = record {
  count = s.count;
  ip = s.ip;
  ac = s.ac;
  pc = s.pc;
  tc = s.trace.tc;
  regs = register_list s.regs;
  marks = set_below 32 s.marks;
}

-- ---- the lines of a run

abbrev pub out_lines : Option ℕ → List Shown
out_lines None = []
out_lines (Some b) = Out b ∷ []

-- a drained point, from the state there
abbrev pub point_lines : Option Point → State → List Shown
point_lines None s = []
point_lines (Some kind) s = Drained kind (view_of s) ∷ []

-- the bytes from an address up, as far as they are compared
abbrev pub overlays : State → ℕ → ℕ → List (Option ℕ)
overlays s a n = map (λ k. overlay s (wrapped (a + k))) (range_with_len 0 n)

-- the bytes that an event shows
abbrev pub bytes_lines : Event → State → List Shown
bytes_lines (Pin x) s = []
bytes_lines (Low x) s = []
bytes_lines (High x) s = []
bytes_lines Nmi s = []
bytes_lines (Dma c) s = []
bytes_lines (Feed c bytes) s = []
bytes_lines (Show a n) s = Bytes a (overlays s a n) ∷ []

-- an event's own line comes before what it shows
abbrev pub event_lines : Kind → State → List Shown
event_lines (Instruction i) s = []
event_lines (Faulted inst fault) s = []
event_lines (Entered e) s = []
event_lines (Interrupted c e) s = []
event_lines (Reached e u) s = Journal s.count e ∷ bytes_lines e s

-- the lines of a record: those of an event, from the state before it; a console byte; and a drained point
abbrev pub record_lines : Record → List Shown
record_lines r =
    event_lines r.kind r.before
    ++ (out_lines (console_byte (action_done r).writes) ++ point_lines (point_of r.kind) r.after)

-- the line of the event that was reached with an end, where one was
abbrev pub journal_lines : ℕ → Option Event → List Shown
journal_lines k None = []
journal_lines k (Some e) = Journal k e ∷ []

-- the end of a run: its drained point, and how it ended; before an imprecise fault there is no point
abbrev pub last_lines : View → End → List Shown
last_lines v (Imprecise a) = Last (Imprecise a) ∷ []
last_lines v f = Drained points.End v ∷ Last f ∷ []

-- the line of an event that was reached comes before them
abbrev pub end_lines : State → Finish → List Shown
end_lines s f = journal_lines s.count f.event ++ last_lines (view_of s) f.end

-- the lines of records, newest first
abbrev pub lines_of : List Record → List Shown
lines_of [] = []
lines_of (r ∷ rs) = lines_of rs ++ record_lines r

-- ---- the bytes of a line

abbrev pub line_feed : List ℕ
line_feed = 10 ∷ []

unfoldable pub out_text : ℕ → List ℕ
out_text b = codes "#out " ++ byte_text b ++ line_feed

-- a word after a space
abbrev pub spaced : ℕ → List ℕ
spaced w = 32 ∷ word_text w

-- a label and words
unfoldable pub words_text : List ℕ → List ℕ → List ℕ
words_text label ws = label ++ flat_map spaced ws ++ line_feed

abbrev pub drained_text : Point → List ℕ
drained_text points.Flush = codes "flush"
drained_text points.Sync = codes "sync"
drained_text points.Event = codes "event"
drained_text points.Int = codes "int"
drained_text points.Fault = codes "fault"
drained_text points.End = codes "end"

-- the count and kind of a drained point, and its address, AC and PC
unfoldable pub point_text : Point → View → List ℕ
point_text k v = words_text (codes "#point " ++ decimal v.count ++ codes " " ++ drained_text k)
    (v.ip ∷ v.ac ∷ v.pc ∷ [])

unfoldable pub end_text : End → List ℕ
end_text (Exit w) = words_text (codes "#end exit") (w ∷ [])
end_text Limit = codes "#end limit" ++ line_feed
end_text (Hazard a) = words_text (codes "#end hazard") (a ∷ [])
end_text (Dead code a) = words_text (codes "#end dead " ++ decimal code) (a ∷ [])
end_text (Imprecise a) = words_text (codes "#end imprecise") (a ∷ [])

-- a register after a space: its value, or eight dashes where it is marked
abbrev pub spaced_register : View → ℕ → List ℕ
spaced_register v r = if bit v.marks r then codes " --------" else spaced (slice_index v.regs r)

-- a label and sixteen registers from one on
unfoldable pub registers_text : List ℕ → View → ℕ → List ℕ
registers_text label v first = label ++ flat_map (spaced_register v) (range_with_len first 16) ++ line_feed

-- a drained point, with its global and its local registers
abbrev pub point_shown : Point → View → List ℕ
point_shown k v = point_text k v ++ (registers_text (codes "#g") v 16 ++ registers_text (codes "#l") v 0)

-- an event that was reached after so many instructions
unfoldable pub event_text : ℕ → Event → List ℕ
event_text k e = journal_text k e ++ line_feed

-- a byte after a space, or two dashes where none is compared
abbrev pub spaced_byte : Option ℕ → List ℕ
spaced_byte None = codes " --"
spaced_byte (Some b) = 32 ∷ byte_text b

-- the bytes from an address on
unfoldable pub bytes_text : ℕ → List (Option ℕ) → List ℕ
bytes_text a bs = codes "#mem" ++ spaced a ++ flat_map spaced_byte bs ++ line_feed

abbrev pub shown_text : Shown → List ℕ
shown_text (Out b) = out_text b
shown_text (Drained k v) = point_shown k v
shown_text (Journal k e) = event_text k e
shown_text (Bytes a bs) = bytes_text a bs
shown_text (Last f) = end_text f

abbrev pub text_of : List Shown → List ℕ
text_of ls = flat_map shown_text ls

-- the events of lines, each at its count
abbrev pub events_of : List Shown → List Timed
events_of [] = []
events_of (Journal k e ∷ ls) = timed_at k e ∷ events_of ls
events_of (Out b ∷ ls) = events_of ls
events_of (Drained k v ∷ ls) = events_of ls
events_of (Bytes a bs ∷ ls) = events_of ls
events_of (Last f ∷ ls) = events_of ls

-- the text of a whole run
abbrev pub run_text : Given → List Record → Finish → List ℕ
run_text g rs f = text_of (lines_of rs ++ end_lines (state_after g rs) f)

-- the line that tells the version of a schedule, where it has the levels of pins
unfoldable pub heading_text : ℕ → List ℕ
heading_text version = if version == levels_version then codes "schedule 2" ++ line_feed else []

-- the status of the command for the end of a run
abbrev pub end_code : End → ℕ
end_code (Exit w) = 0
end_code Limit = 0
end_code (Hazard a) = 4
end_code (Dead code a) = 4
end_code (Imprecise a) = 4
