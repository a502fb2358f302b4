-- Sources: the bytes and the faults of each line, and the segments.
use Rattle.std.specs.Prelude.{◌≡◌, ℕ, zero, suc, ◌+◌, ◌-◌, ◌*◌, ◌%◌, ◌^◌, ◌≤◌, ◌||◌, not, nat_lt, nat_le, Bool, List}
use Rattle.std.specs.Prelude.{[], ◌∷◌, ◌++◌, length, take, Option, Some, None, is_some, if◌then◌else◌}
use Rattle.std.specs.Option.{option_map}
use Rattle.std.specs.List.{list_all, flat_map}
use Rattle.std.specs.Int.{w32, to_le_bytes}
use Rattle.i9_statement.specs.declared.fault.Fault.{Fault}
use Rattle.i9_statement.specs.declared.fault.Fault.TheVariants as fault
use Rattle.i9_statement.specs.declared.fault.Noted.{Noted}
use Rattle.i9_statement.specs.declared.values.Value.{Value}
use Rattle.i9_statement.specs.Noted.{kind_of, least}
use Rattle.i9_statement.specs.Values.{Names, is_name, value_of, settled}
use Rattle.i9_statement.specs.Statements.{statement_of}
use Rattle.i9_statement.specs.Codes.{Stands}
use Rattle.i9_asm.specs.Lines.{Item, Empty, Bad, Org, Space, Align, Set, Data, Ascii, Instruction, item_of, label_of}
use Rattle.i9_asm.specs.Strings.{string_of}
use Rattle.i9_model.specs.Image.{Part}
use Rattle.i9_hex.specs.Put.{with_part}
use Rattle.i9_asm.specs.Places.{is_ascii, if_holds, space_of, alignment_of, Place, address_at, past_label, past_line}
use Rattle.i9_asm.specs.Places.{start_place, size_of, moved_to}

-- ---- bytes

-- a value of 1, 2 or 4 bytes is in range as a number with or without a sign
abbrev pub fits_width : ℕ → ℕ → Bool
fits_width width n = nat_lt n (2 ^ (8 * width)) || nat_le (2 ^ 32 - 2 ^ (8 * width - 1)) n

-- one value of so many bytes
abbrev pub data_value : ℕ → Option Value → Noted ℕ
data_value width v = if_holds (fits_width width (settled v).value) (settled v)

-- the low bytes of a value, low ones first
abbrev pub low_bytes : ℕ → ℕ → List ℕ
low_bytes width n = take width (to_le_bytes w32 n)

-- so many bytes of `.space`
unfoldable pub zeros : ℕ → List ℕ
zeros zero = []
zeros (suc n) = 0 ∷ zeros n

-- the bytes that an item gives at a place, by cases
pub data Gives (names : Names) (p : Place) : Item → List ℕ → Type 0 where
  gives_nothing : Gives names p Empty []
  gives_instruction : (s ws : List ℕ) → Stands names (address_at p) s ws
      → Gives names p (Instruction s) (flat_map (to_le_bytes w32) ws)
  gives_data : (width : ℕ) (fs : List (List ℕ))
      → Gives names p (Data width fs) (flat_map (λ f. low_bytes width (data_value width (value_of names f)).value) fs)
  gives_characters : (s cs : List ℕ) → string_of s ≡ Some cs → Gives names p (Ascii s) cs
  gives_zeros : (f : List ℕ) → Gives names p (Space f) (zeros (size_of p (Space f)))
  gives_move : (f : List ℕ) → Gives names p (Org f) []
  gives_alignment : (f : List ℕ) → Gives names p (Align f) []
  gives_assignment : (name f : List ℕ) → Gives names p (Set name f) []

-- ---- faults

-- of a name that is defined, by a label or by `.set`
abbrev pub label_fault : Option (List ℕ) → Names → Option Fault
label_fault None known = None
label_fault (Some name) known =
    if is_name name then (if is_some (known name) then Some fault.NameTwice else None) else Some fault.Form

-- the least fault of data
abbrev pub data_fault : ℕ → Names → List (List ℕ) → Option Fault
data_fault width names [] = None
data_fault width names (f ∷ fs) = least (data_value width (value_of names f)).fault (data_fault width names fs)

-- the least fault of an item at a place
abbrev pub item_fault : Names → Place → Item → Option Fault
item_fault names p Empty = None
item_fault names p (Bad f) = Some f
item_fault names p (Org f) = (settled (value_of p.known f)).fault
item_fault names p (Space f) = (space_of (value_of p.known f)).fault
item_fault names p (Align f) = (alignment_of (value_of p.known f)).fault
item_fault names p (Set name f) = least (settled (value_of p.known f)).fault (label_fault (Some name) p.known)
item_fault names p (Data width fs) = data_fault width names fs
item_fault names p (Ascii s) = if is_some (string_of s) then None else Some fault.Form
item_fault names p (Instruction s) = (statement_of (address_at p) names s).fault

-- a fault, where a test holds
abbrev pub fault_if : Bool → Fault → Option Fault
fault_if test f = if test then Some f else None

-- ---- segments

-- Where a source stands: the place, the segments that ended, the address and the bytes of the one that grows, which
-- may be empty, and how many bytes were counted.
pub record Source : Type 0 where
  pub place : Place
  pub segments : List Part
  pub address : ℕ
  pub bytes : List ℕ
  pub total : ℕ

-- before the first line
abbrev pub start_source : Source
start_source = record { place = start_place; segments = []; address = 0; bytes = []; total = 0 }

-- the segments of a source
abbrev pub segments_of : Source → List Part
segments_of s = with_part s.segments s.address s.bytes

-- a new segment, where the location was moved
abbrev pub begun : Option ℕ → Source → Source
begun None s = s
begun (Some a) s = record s { segments = segments_of s; address = a % 2 ^ 32; bytes = [] }

-- bytes behind the segment that grows, which count as so many, and the place behind them
abbrev pub grown : Source → Place → ℕ → List ℕ → Source
grown s p size bs = record s { place = p; bytes = s.bytes ++ bs; total = s.total + size }

-- the source behind an item with these bytes, at this place
abbrev pub past_source : Source → Place → Item → List ℕ → Source
past_source s next item bs = grown (begun (moved_to s.place item) s) next (size_of s.place item) bs

-- how many bytes a source has at most
abbrev pub most_bytes : ℕ
most_bytes = 4194304

-- the least fault of a line up to its label
abbrev pub front_fault : Place → List ℕ → Option Fault
front_fault p line = least (fault_if (not (list_all is_ascii line)) fault.Form) (label_fault (label_of line) p.known)

-- the least fault of so many bytes more
abbrev pub room_fault : Source → ℕ → Option Fault
room_fault s size =
    least (fault_if (nat_lt (2 ^ 32) (s.place.location + size)) fault.Range)
    (fault_if (nat_lt most_bytes (s.total + size)) fault.TooMany)

-- the least fault of what a line says behind its label
abbrev pub rest_fault : Names → Source → Item → Option Fault
rest_fault names s item = least (item_fault names s.place item) (room_fault s (size_of s.place item))

-- a source behind a label
abbrev pub labelled_source : Option (List ℕ) → Source → Source
labelled_source label s = record s { place = past_label label s.place }

-- the least fault of a line
unfoldable pub line_fault : Names → Source → List ℕ → Option Fault
line_fault names s line =
    least (front_fault s.place line) (rest_fault names (labelled_source (label_of line) s) (item_of line))

-- its kind
abbrev pub fault_of : Names → Source → List ℕ → Option ℕ
fault_of names s line = option_map kind_of (line_fault names s line)

-- a line without fault leads from one source to the next
pub record Assembles (names : Names) (s : Source) (line : List ℕ) (t : Source) : Type 0 where
  pub bytes : List ℕ
  pub sound : line_fault names s line ≡ None
  pub gives : Gives names (past_label (label_of line) s.place) (item_of line) bytes
  pub after : t ≡ past_source (labelled_source (label_of line) s) (past_line s.place line) (item_of line) bytes

-- ---- lines that add bytes

-- the source behind bytes
abbrev pub past_bytes : Source → List ℕ → Source
past_bytes s bs = grown s (record { location = s.place.location + length bs; known = s.place.known }) (length bs) bs

-- so many bytes have room behind a source
pub record HasRoom (s : Source) (n : ℕ) : Type 0 where
  pub inside : s.place.location + n ≤ 2 ^ 32
  pub few : s.total + n ≤ most_bytes

-- at this address a line adds these bytes to every source with room for them, and has no fault there
abbrev pub AddsBytes : Names → ℕ → List ℕ → List ℕ → Type 0
AddsBytes names ip line bs =
    (s : Source) → s.place.location ≡ ip → HasRoom s (length bs) → Assembles names s line (past_bytes s bs)
