-- Events: which words say them, and the words that a journal prints for them.
use Rattle.std.specs.Prelude.{◌≡◌, ℕ, ◌≤◌, ◌⊎◌, List, [], ◌∷◌, length, ◌==◌, ◌||◌, nat_lt, if◌then◌else◌, codes, Option}
use Rattle.std.specs.Prelude.{Some, None, Result, Err}
use Rattle.std.specs.Option.{option_and_then, ok_or}
use Rattle.std.specs.Result.{result_ok}
use Rattle.std.specs.List.{join_with_byte}
use Rattle.std.specs.Str.{bytes_eq}
use Rattle.std.specs.Fmt.{decimal}
use Rattle.hex.specs.Hex.{IsBytes, decode_of, encode_upper}
use Rattle.i9_text.specs.Text.{number_of, space}
use Rattle.i9_text.specs.Written.{word_text}
use Rattle.i9_model.specs.declared.event.Event.{Event}
use Rattle.i9_model.specs.declared.event.Event.TheVariants.{Pin, Low, High, Nmi, Dma, Feed, Show}

abbrev pub Words : Type 0
Words = List (List ℕ)

-- ---- limits

abbrev pub last_pin : ℕ
last_pin = 7

abbrev pub last_channel : ℕ
last_channel = 3

abbrev pub last_address : ℕ
last_address = 4294967295

abbrev pub most_shown : ℕ
most_shown = 64

-- ---- the versions of schedules

abbrev pub first_version : ℕ
first_version = 1

-- the one with the levels of pins
abbrev pub levels_version : ℕ
levels_version = 2

abbrev pub IsVersion : ℕ → Type 0
IsVersion version = (version ≡ first_version) ⊎ (version ≡ levels_version)

-- a schedule of this version may have the event
abbrev pub IsOfVersion : ℕ → Event → Type 0
IsOfVersion version (Pin x) = Unit {0}
IsOfVersion version (Low x) = version ≡ levels_version
IsOfVersion version (High x) = version ≡ levels_version
IsOfVersion version Nmi = Unit {0}
IsOfVersion version (Dma c) = Unit {0}
IsOfVersion version (Feed c bytes) = Unit {0}
IsOfVersion version (Show a l) = Unit {0}

-- ---- the kinds of faults of an event

abbrev pub unknown_event : ℕ
unknown_event = 2

abbrev pub bad_operand : ℕ
bad_operand = 3

-- ---- operands

-- a number that is in a range
abbrev pub within : ℕ → ℕ → ℕ → Option ℕ
within low high n = if nat_lt n low || nat_lt high n then None else Some n

-- the number of a word of one to most digits, in a range
unfoldable pub number_in : ℕ → ℕ → ℕ → ℕ → List ℕ → Option ℕ
number_in radix most low high word = option_and_then (within low high) (number_of radix most word)

-- a decimal number of one to ten digits
abbrev pub decimal_in : ℕ → ℕ → List ℕ → Option ℕ
decimal_in low high word = number_in 10 10 low high word

-- an address of one to eight hexadecimal digits
abbrev pub address_of : List ℕ → Option ℕ
address_of word = number_in 16 8 0 last_address word

-- the bytes of 2, 4, 8 or 32 digits
unfoldable pub bytes_in : List ℕ → Option (List ℕ)
bytes_in word =
    if length word == 2 || length word == 4 || length word == 8 || length word == 32 then result_ok (decode_of word)
    else None

-- the only word, and the only two
abbrev pub one_of : Words → Option (List ℕ)
one_of (w ∷ []) = Some w
one_of [] = None
one_of (w ∷ x ∷ ws) = None

abbrev pub two_of : Words → Option (List ℕ × List ℕ)
two_of (w ∷ x ∷ []) = Some (w, x)
two_of [] = None
two_of (w ∷ []) = None
two_of (w ∷ x ∷ y ∷ ws) = None

-- ---- which words say an event in a version, one case for each

pub data IsEvent (version : ℕ) : List ℕ → Words → Event → Type 0 where
  is_pin : (x : List ℕ) (n : ℕ) → decimal_in 0 last_pin x ≡ Some n → IsEvent version (codes "pin") (x ∷ []) (Pin n)
  is_low : (x : List ℕ) (n : ℕ) → version ≡ levels_version → decimal_in 0 last_pin x ≡ Some n
      → IsEvent version (codes "low") (x ∷ []) (Low n)
  is_high : (x : List ℕ) (n : ℕ) → version ≡ levels_version → decimal_in 0 last_pin x ≡ Some n
      → IsEvent version (codes "high") (x ∷ []) (High n)
  is_nmi : IsEvent version (codes "nmi") [] Nmi
  is_dma : (c : List ℕ) (n : ℕ) → decimal_in 0 last_channel c ≡ Some n → IsEvent version (codes "dma") (c ∷ []) (Dma n)
  is_feed : (c h : List ℕ) (n : ℕ) (bs : List ℕ) → decimal_in 0 last_channel c ≡ Some n → bytes_in h ≡ Some bs
      → IsEvent version (codes "feed") (c ∷ h ∷ []) (Feed n (record { items = bs }))
  is_show : (a l : List ℕ) (m n : ℕ) → address_of a ≡ Some m → decimal_in 1 most_shown l ≡ Some n
      → IsEvent version (codes "show") (a ∷ l ∷ []) (Show m n)

-- ---- the same as functions, which give the least fault too

-- the ? of the logic
infixl 10 ◌>>=◌
abbrev pub ◌>>=◌ : {A B : Type 0} → Option A → (A → Option B) → Option B
o >>= f = option_and_then f o

unfoldable pub pin_of : Words → Option Event
pin_of ws = do
  x ← one_of ws
  n ← decimal_in 0 last_pin x
  Some (Pin n)

unfoldable pub low_of : Words → Option Event
low_of ws = do
  x ← one_of ws
  n ← decimal_in 0 last_pin x
  Some (Low n)

unfoldable pub high_of : Words → Option Event
high_of ws = do
  x ← one_of ws
  n ← decimal_in 0 last_pin x
  Some (High n)

unfoldable pub nmi_of : Words → Option Event
nmi_of [] = Some Nmi
nmi_of (w ∷ ws) = None

unfoldable pub dma_of : Words → Option Event
dma_of ws = do
  c ← one_of ws
  n ← decimal_in 0 last_channel c
  Some (Dma n)

unfoldable pub feed_of : Words → Option Event
feed_of ws = do
  p ← two_of ws
  c ← decimal_in 0 last_channel p.0
  bytes ← bytes_in p.1
  Some (Feed c (record { items = bytes }))

unfoldable pub show_of : Words → Option Event
show_of ws = do
  p ← two_of ws
  a ← address_of p.0
  l ← decimal_in 1 most_shown p.1
  Some (Show a l)

-- the words that the version of levels has beside
unfoldable pub level_event_of : List ℕ → Words → Result Event ℕ
level_event_of name ws =
    if bytes_eq name (codes "low") then ok_or (low_of ws) bad_operand
    else if bytes_eq name (codes "high") then ok_or (high_of ws) bad_operand
    else Err unknown_event

-- the event of a name and operands in a version, or the kind of their fault
unfoldable pub event_of : ℕ → List ℕ → Words → Result Event ℕ
event_of version name ws =
    if bytes_eq name (codes "pin") then ok_or (pin_of ws) bad_operand
    else if bytes_eq name (codes "nmi") then ok_or (nmi_of ws) bad_operand
    else if bytes_eq name (codes "dma") then ok_or (dma_of ws) bad_operand
    else if bytes_eq name (codes "feed") then ok_or (feed_of ws) bad_operand
    else if bytes_eq name (codes "show") then ok_or (show_of ws) bad_operand
    else if version == levels_version then level_event_of name ws
    else Err unknown_event

-- ---- which events there are

-- of a unit that a channel moves, in bytes
abbrev pub IsUnit : ℕ → Type 0
IsUnit n = ((n ≡ 1) ⊎ (n ≡ 2)) ⊎ ((n ≡ 4) ⊎ (n ≡ 16))

-- the operands are in their ranges
abbrev pub IsInRange : Event → Type 0
IsInRange (Pin x) = x ≤ last_pin
IsInRange (Low x) = x ≤ last_pin
IsInRange (High x) = x ≤ last_pin
IsInRange Nmi = Unit {0}
IsInRange (Dma c) = c ≤ last_channel
IsInRange (Feed c bytes) = (c ≤ last_channel) × IsUnit (length bytes.items) × IsBytes bytes.items
IsInRange (Show a l) = (a ≤ last_address) × (1 ≤ l) × (l ≤ most_shown)

-- ---- printing

-- numbers without leading zeros, an address in eight digits, and upper-case digits
abbrev pub event_words : Event → Words
event_words (Pin x) = codes "pin" ∷ decimal x ∷ []
event_words (Low x) = codes "low" ∷ decimal x ∷ []
event_words (High x) = codes "high" ∷ decimal x ∷ []
event_words Nmi = codes "nmi" ∷ []
event_words (Dma c) = codes "dma" ∷ decimal c ∷ []
event_words (Feed c bytes) = codes "feed" ∷ decimal c ∷ encode_upper bytes.items ∷ []
event_words (Show a l) = codes "show" ∷ word_text a ∷ decimal l ∷ []

-- with the count before them
abbrev pub journal_words : ℕ → Event → Words
journal_words k e = codes "at" ∷ decimal k ∷ event_words e

-- the line of an event after k instructions, without its line feed: the words with single spaces between them
unfoldable pub journal_text : ℕ → Event → List ℕ
journal_text k e = join_with_byte space (journal_words k e)
