-- Schedules: what their lines say, and which fault a line has.
use Rattle.std.specs.Prelude.{◌≡◌, ℕ, ◌-◌, ◌≤◌, List, [], ◌∷◌, ◌++◌, length, Bool, true, false, not, ◌==◌, ◌||◌, nat_lt}
use Rattle.std.specs.Prelude.{nat_le, if◌then◌else◌, codes, slice_index, Option, Some, None, Result, Ok, Err}
use Rattle.std.specs.Option.{ok_or, option_map}
use Rattle.std.specs.List.{slice_get, list_all, AllByRecursion}
use Rattle.std.specs.Str.{bytes_eq}
use Rattle.i9_text.specs.Text.{words_of}
use Rattle.i9_text.specs.FirstFault as texts
use Rattle.i9_model.specs.Events.{Words, number_in, one_of, IsEvent, event_of, unknown_event, bad_operand, IsInRange}
pub use Rattle.i9_model.specs.Events.{first_version, levels_version, IsVersion, IsOfVersion}
use Rattle.i9_model.specs.declared.event.Event.{Event}
use Rattle.i9_model.specs.declared.event.When.{When}
use Rattle.i9_model.specs.declared.event.When.TheVariants.{At, Turn}
use Rattle.i9_model.specs.declared.event.Timed.{Timed}
use Rattle.i9_model.specs.declared.event.Said.{Said}
use Rattle.i9_model.specs.declared.event.Said.TheVariants as said

-- ---- limits

abbrev pub last_count : ℕ
last_count = 10000000

abbrev pub last_turn : ℕ
last_turn = 1000000000000

abbrev pub most_events : ℕ
most_events = 1000000

-- ---- the kinds of faults, with those of an event

abbrev pub unknown_line : ℕ
unknown_line = 1

abbrev pub mixed_times : ℕ
mixed_times = 4

abbrev pub earlier_time : ℕ
earlier_time = 5

abbrev pub too_many_events : ℕ
too_many_events = 6

-- ---- one line

-- a count, and a turn, of one to thirteen digits
abbrev pub count_of : List ℕ → Option ℕ
count_of word = number_in 10 13 0 last_count word

abbrev pub turn_of : List ℕ → Option ℕ
turn_of word = number_in 10 13 0 last_turn word

-- an event that happens after so many instructions
abbrev pub timed_at : ℕ → Event → Timed
timed_at k e = record { when = At k; event = e }

-- one that happens before the first instruction that would issue at a turn or later
abbrev pub timed_by_turn : ℕ → Event → Timed
timed_by_turn t e = record { when = Turn t; event = e }

-- which words say an event and when it happens, in a version
pub data IsTimed (version : ℕ) : Words → Timed → Type 0 where
  is_at : (k name : List ℕ) (operands : Words) (n : ℕ) (e : Event) → count_of k ≡ Some n
      → IsEvent version name operands e
      → IsTimed version (codes "at" ∷ k ∷ name ∷ operands) (timed_at n e)
  is_turn : (t name : List ℕ) (operands : Words) (n : ℕ) (e : Event) → turn_of t ≡ Some n
      → IsEvent version name operands e
      → IsTimed version (codes "turn" ∷ t ∷ name ∷ operands) (timed_by_turn n e)

abbrev pub and_then : {A B : Type 0} → Result A ℕ → (A → Result B ℕ) → Result B ℕ
and_then (Ok x) f = f x
and_then (Err k) f = Err k

infixl 10 ◌>>=◌
abbrev pub ◌>>=◌ : {A B : Type 0} → Result A ℕ → (A → Result B ℕ) → Result B ℕ
r >>= f = and_then r f

-- the time behind each of the first words
abbrev pub count_time : List ℕ → Option When
count_time word = option_map At (count_of word)

abbrev pub turn_time : List ℕ → Option When
turn_time word = option_map Turn (turn_of word)

-- what the words behind the first one say, where the next one is read as this time, or the kind of their fault; an
-- unknown event comes before a bad time
unfoldable pub timed_by : ℕ → (List ℕ → Option When) → Words → Result Timed ℕ
timed_by version time [] = Err unknown_event
timed_by version time (k ∷ []) = Err unknown_event
timed_by version time (k ∷ name ∷ operands) = do
  e ← event_of version name operands
  w ← ok_or (time k) bad_operand
  Ok (record { when = w; event = e })

-- what words say in a version, or the kind of their fault
unfoldable pub timed_of : ℕ → Words → Result Timed ℕ
timed_of version [] = Err unknown_line
timed_of version (first ∷ rest) =
    if bytes_eq first (codes "at") then timed_by version count_time rest
    else if bytes_eq first (codes "turn") then timed_by version turn_time rest
    else Err unknown_line

-- ---- the version

-- the words of the line that tells it
abbrev pub heading : Words
heading = codes "schedule" ∷ codes "2" ∷ []

-- the version of a text whose lines so far told this one, or none
abbrev pub version_in : Option ℕ → ℕ
version_in None = first_version
version_in (Some version) = version

abbrev pub heading_by : Option (List ℕ) → Result Said ℕ
heading_by None = Err bad_operand
heading_by (Some word) = if bytes_eq word (codes "2") then Ok (said.Version levels_version) else Err bad_operand

-- what the words behind `schedule` say, or the kind of their fault
unfoldable pub heading_of : Words → Result Said ℕ
heading_of ws = heading_by (one_of ws)

abbrev pub event_said : ℕ → Words → Result Said ℕ
event_said version ws = and_then (timed_of version ws) (λ t. Ok (said.Event t))

-- what the words of the first line say that is not skipped, or the kind of their fault
unfoldable pub opening_of : Words → Result Said ℕ
opening_of [] = Err unknown_line
opening_of (first ∷ rest) =
    if bytes_eq first (codes "schedule") then heading_of rest else event_said first_version (first ∷ rest)

-- the same behind lines that told this version, or none
abbrev pub said_of : Option ℕ → Words → Result Said ℕ
said_of None ws = opening_of ws
said_of (Some version) ws = event_said version ws

-- no byte is past ASCII
abbrev pub is_ascii_byte : ℕ → Bool
is_ascii_byte b = nat_lt b 128

abbrev pub is_ascii : List ℕ → Bool
is_ascii line = list_all is_ascii_byte line

-- the byte that a comment begins with
abbrev pub hash : ℕ
hash = 35

-- a comment, or a line without words
abbrev pub is_skipped : List ℕ → Bool
is_skipped line = (slice_index line 0 == hash) || (length (words_of line) == 0)

-- what a line says by itself, behind lines that told this version, or none: nothing, the version, or an event; or the
-- kind of its fault
unfoldable pub line_of : Option ℕ → List ℕ → Result Said ℕ
line_of version line =
    if not (is_ascii line) then Err unknown_line
    else if is_skipped line then Ok said.Nothing
    else said_of version (words_of line)

-- ---- after the lines before

-- the fault of a number after an earlier one
abbrev pub earlier_fault : ℕ → ℕ → Option ℕ
earlier_fault m n = if nat_lt n m then Some earlier_time else None

-- the fault of a time after an earlier one: counts and turns do not stand in one text
abbrev pub order_fault : When → When → Option ℕ
order_fault (At m) (At n) = earlier_fault m n
order_fault (Turn m) (Turn n) = earlier_fault m n
order_fault (At m) (Turn n) = Some mixed_times
order_fault (Turn m) (At n) = Some mixed_times

-- the fault of an event after the last one
abbrev pub fault_after_last : Option Timed → Timed → Option ℕ
fault_after_last None t = None
fault_after_last (Some last) t = order_fault last.when t.when

-- the fault of an event behind so many
abbrev pub fault_of_count : ℕ → Option ℕ
fault_of_count n = if nat_le most_events n then Some too_many_events else None

-- the first of two faults
abbrev pub first_fault : Option ℕ → Option ℕ → Option ℕ
first_fault (Some kind) later = Some kind
first_fault None later = later

-- the fault of an event after those before it
unfoldable pub fault_after : List Timed → Timed → Option ℕ
fault_after ts t =
    first_fault (fault_after_last (slice_get ts (length ts - 1)) t) (fault_of_count (length ts))

-- what lines so far said: a version, or none, and events
pub record SoFar : Type 0 where
  pub version : Option ℕ
  pub events : List Timed

abbrev pub nothing_yet : SoFar
nothing_yet = record { version = None; events = [] }

-- what they said with one event more, which tells the version
abbrev pub with_event : SoFar → Timed → SoFar
with_event s t = record { version = Some (version_in s.version); events = s.events ++ t ∷ [] }

-- what a line without fault says: nothing where it is skipped; the version, where no line before told it; or an event
pub data Says : SoFar → List ℕ → SoFar → Type 0 where
  says_nothing : (s : SoFar) (line : List ℕ) → is_ascii line ≡ true → is_skipped line ≡ true → Says s line s
  says_version : (s : SoFar) (line : List ℕ) → is_ascii line ≡ true → is_skipped line ≡ false → s.version ≡ None
      → words_of line ≡ heading → Says s line (record s { version = Some levels_version })
  says_event : (s : SoFar) (line : List ℕ) (t : Timed) → is_ascii line ≡ true → is_skipped line ≡ false
      → IsTimed (version_in s.version) (words_of line) t → fault_after s.events t ≡ None → Says s line (with_event s t)

-- the fault of what a line says by itself
abbrev pub fault_of_said : List Timed → Result Said ℕ → Option ℕ
fault_of_said ts (Err kind) = Some kind
fault_of_said ts (Ok said.Nothing) = None
fault_of_said ts (Ok (said.Version version)) = None
fault_of_said ts (Ok (said.Event t)) = fault_after ts t

-- The fault of a line, the least of its kinds: 1, it is not ASCII, or its first word is neither `at` nor `turn`, nor is
-- it `schedule` where no line before said anything; 2, there is no event word, or one that is unknown in the version;
-- 3, a number or operand is out of its form or range, or missing, or there is one too many; 4, its first word is not
-- that of the event before; 5, its time is below that of the event before; 6, there are too many events.
abbrev pub fault_of : SoFar → List ℕ → Option ℕ
fault_of s line = fault_of_said s.events (line_of s.version line)

-- a text may end after every line
abbrev pub nothing_missing : SoFar → Option ℕ
nothing_missing s = None

-- ---- whole texts

-- what a schedule says: its version and its events
pub record Contents : Type 0 where
  pub version : ℕ
  pub events : List Timed

abbrev pub contents_of : SoFar → Contents
contents_of s = record { version = version_in s.version; events = s.events }

-- the lines say this version and these events
abbrev pub IsSchedule : List (List ℕ) → Contents → Type 0
IsSchedule lines c = (s : SoFar) × texts.SaysAll Says nothing_yet lines s × (contents_of s ≡ c)

-- the first line at fault, counted from 1, with its kind
abbrev pub IsRefused : List (List ℕ) → ℕ × ℕ → Type 0
IsRefused lines fault = texts.IsRefused Says fault_of nothing_missing nothing_yet lines fault

-- ---- which events a schedule may have

-- the count or the turn
abbrev pub at_time : When → ℕ
at_time (At k) = k
at_time (Turn t) = t

abbrev pub time_of : Timed → ℕ
time_of t = at_time t.when

-- the greatest that it may be
abbrev pub greatest_time : When → ℕ
greatest_time (At k) = last_count
greatest_time (Turn t) = last_turn

-- the time and the operands are in their ranges
pub record IsTimedInRange (t : Timed) : Type 0 where
  pub time : time_of t ≤ greatest_time t.when
  pub event : IsInRange t.event

-- none is before a time, or before the one before it
abbrev pub InOrder : ℕ → List Timed → Type 0
InOrder time [] = Unit {0}
InOrder time (t ∷ ts) = (time ≤ time_of t) × InOrder (time_of t) ts

-- an event happens after so many instructions
abbrev pub is_counted : When → Bool
is_counted (At k) = true
is_counted (Turn t) = false

-- each event does so, or none of them does
abbrev pub AreCounted : Bool → List Timed → Type 0
AreCounted b ts = AllByRecursion (λ t. is_counted t.when ≡ b) ts

-- the events of a schedule by counts: each happens after so many instructions
abbrev pub IsByCounts : List Timed → Type 0
IsByCounts ts = AreCounted true ts

-- a schedule of this version may have the events
abbrev pub AreOfVersion : ℕ → List Timed → Type 0
AreOfVersion version ts = AllByRecursion (λ t. IsOfVersion version t.event) ts

-- what the events of a schedule are
pub record IsPlan (ts : List Timed) : Type 0 where
  pub each : AllByRecursion IsTimedInRange ts
  pub order : InOrder 0 ts
  pub few : length ts ≤ most_events
  pub alike : (b : Bool) × AreCounted b ts

-- ---- which event stands at a place of a run

-- the event, where its time has come
abbrev pub event_where : (When → Bool) → Option Timed → Option Event
event_where has_come None = None
event_where has_come (Some t) = if has_come t.when then Some t.event else None

-- a count has come; a turn has not, for a machine that does one thing after the other and knows no turns
abbrev pub has_come_at : ℕ → When → Bool
has_come_at k (At n) = n == k
has_come_at k (Turn n) = false

abbrev pub event_at : ℕ → Option Timed → Option Event
event_at k o = event_where (has_come_at k) o

-- the next event of a plan that stands after so many instructions, where so many events were reached
abbrev pub standing : List Timed → ℕ → ℕ → Option Event
standing ts place k = event_at k (slice_get ts place)

-- the same where the instruction at the instruction address would issue at a turn, if no event came before it
abbrev pub has_come_by : ℕ → ℕ → When → Bool
has_come_by k t (At n) = n == k
has_come_by k t (Turn n) = nat_le n t

abbrev pub standing_by : List Timed → ℕ → ℕ → ℕ → Option Event
standing_by ts place k t = event_where (has_come_by k t) (slice_get ts place)
