-- Places in a source: the location, and the names that are known there.
use Rattle.std.specs.Prelude.{ℕ, ◌+◌, ◌-◌, ◌*◌, ◌/◌, ◌%◌, ◌^◌, ◌==◌, ◌&&◌, nat_lt, nat_le, Bool, true, false, List, []}
use Rattle.std.specs.Prelude.{◌∷◌, length, Option, Some, None, is_some, if◌then◌else◌}
use Rattle.std.specs.List.{list_all, list_any}
use Rattle.std.specs.Str.{bytes_eq}
use Rattle.std.specs.Map.{update}
use Rattle.i9_isa.specs.Words.{words_of}
use Rattle.i9_statement.specs.declared.fault.Fault.{Fault}
use Rattle.i9_statement.specs.declared.fault.Fault.TheVariants as fault
use Rattle.i9_statement.specs.declared.fault.Noted.{Noted}
use Rattle.i9_statement.specs.declared.statements.Statement.{Statement}
use Rattle.i9_statement.specs.declared.values.Value.{Value}
use Rattle.i9_statement.specs.Noted.{kind_of, wrong}
use Rattle.i9_statement.specs.Values.{Names, is_name, value_of, settled}
use Rattle.i9_statement.specs.Statements.{statement_of}
use Rattle.i9_asm.specs.Lines.{Item, Empty, Org, Space, Align, Set, Data, Ascii, Instruction, item_of, label_of}
use Rattle.i9_asm.specs.Strings.{string_of}

-- ---- names

-- no name has a value
abbrev pub no_names : Names
no_names name = None

-- the first definition of a name counts
abbrev pub define : List ℕ → ℕ → Names → Names
define name value known = if is_some (known name) then known else update bytes_eq known name (Some value)

-- ---- directives with one value, which speak of the names so far alone

-- a value that passes a test
abbrev pub if_holds : Bool → Noted ℕ → Noted ℕ
if_holds test n = if is_some n.fault then n else if test then n else wrong fault.Range 0

-- a power of two from 2 to 4096
abbrev pub is_alignment : ℕ → Bool
is_alignment n = list_any (λ m. n == m) (2 ∷ 4 ∷ 8 ∷ 16 ∷ 32 ∷ 64 ∷ 128 ∷ 256 ∷ 512 ∷ 1024 ∷ 2048 ∷ 4096 ∷ [])

-- how many bytes `.space` counts
abbrev pub space_of : Option Value → Noted ℕ
space_of v = if_holds (nat_le (settled v).value 1048576) (settled v)

-- to which multiples `.align` moves
abbrev pub alignment_of : Option Value → Noted ℕ
alignment_of v = if_holds (is_alignment (settled v).value) (settled v)

-- ---- places

-- Where a line stands: its location, and the names that are defined before it. Behind FFFFFFFF the location is 2^32,
-- where no byte can stand. It counts modulo 2^33, so that this is told from 0; only lines behind a fault go further.
pub record Place : Type 0 where
  pub location : ℕ
  pub known : Names

-- where the location counts from 0 again
abbrev pub location_count : ℕ
location_count = 2 ^ 33

-- the address there
abbrev pub address_at : Place → ℕ
address_at p = p.location % 2 ^ 32

-- the place behind a label
abbrev pub past_label : Option (List ℕ) → Place → Place
past_label None p = p
past_label (Some name) p = if is_name name then record p { known = define name (address_at p) p.known } else p

-- a fault with which a line counts as no bytes
abbrev pub is_form_fault : Option Fault → Bool
is_form_fault None = false
is_form_fault (Some f) = nat_lt (kind_of f) 4

-- the bytes of a statement
abbrev pub statement_size : Noted Statement → ℕ
statement_size n = if is_form_fault n.fault then 0 else 4 * words_of n.value.inst

-- the bytes of a string
abbrev pub string_size : Option (List ℕ) → ℕ
string_size None = 0
string_size (Some cs) = length cs

-- how many bytes an item counts, whatever names are worth
abbrev pub size_of : Place → Item → ℕ
size_of p (Space f) = (space_of (value_of p.known f)).value
size_of p (Data width fs) = if list_all (λ f. is_some (value_of no_names f)) fs then width * length fs else 0
size_of p (Ascii s) = string_size (string_of s)
size_of p (Instruction s) = statement_size (statement_of (address_at p) no_names s)
size_of p _ = 0

-- a location moved up to a multiple
abbrev pub moved_up : ℕ → ℕ → Option ℕ
moved_up location n = let up = (location + (n - 1)) / n * n in if up == location then None else Some up

-- only where there is no fault
abbrev pub if_fine : Noted ℕ → Option ℕ → Option ℕ
if_fine n o = if is_some n.fault then None else o

-- where an item moves the location to, and so begins a new segment
abbrev pub moved_to : Place → Item → Option ℕ
moved_to p (Org f) = let n = settled (value_of p.known f) in if_fine n (Some n.value)
moved_to p (Align f) = let n = alignment_of (value_of p.known f) in if_fine n (moved_up p.location n.value)
moved_to p _ = None

-- the names behind an item
abbrev pub assigned : Place → Item → Names
assigned p (Set name f) =
    let v = value_of p.known f in
    if is_name name && is_some v then define name (settled v).value p.known else p.known
assigned p _ = p.known

-- the location behind an item, which was moved or not
abbrev pub next_location : Option ℕ → ℕ → ℕ
next_location (Some a) n = a
next_location None n = n

-- the place behind an item
abbrev pub past_item : Place → Item → Place
past_item p item = record {
  location = next_location (moved_to p item) (p.location + size_of p item) % location_count;
  known = assigned p item;
}

-- a byte of ASCII
abbrev pub is_ascii : ℕ → Bool
is_ascii b = nat_lt b 128

-- no label, or a name
abbrev pub is_label : Option (List ℕ) → Bool
is_label None = true
is_label (Some name) = is_name name

-- what a line does behind its label; with a byte past ASCII, or a label that is no name, nothing
abbrev pub effect_of : List ℕ → Item
effect_of line = if list_all is_ascii line && is_label (label_of line) then item_of line else Empty

-- the place behind a line, also behind one at fault
abbrev pub past_line : Place → List ℕ → Place
past_line p line = past_item (past_label (label_of line) p) (effect_of line)

-- the place before the first line
abbrev pub start_place : Place
start_place = record { location = 0; known = no_names }

-- the place behind all lines; the values of all names are those that are known there
unfoldable pub past_lines : Place → List (List ℕ) → Place
past_lines p [] = p
past_lines p (line ∷ lines) = past_lines (past_line p line) lines

-- the values of the names of a source
abbrev pub all_names : List (List ℕ) → Names
all_names lines = (past_lines start_place lines).known
