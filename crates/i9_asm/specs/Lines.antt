-- Lines of a source: the comment, the label, and what follows it.
use Rattle.std.specs.Prelude.{◌≡◌, ℕ, ◌+◌, ◌==◌, ◌||◌, Bool, false, List, [], ◌∷◌, take, codes, Option, Some, None}
use Rattle.std.specs.Prelude.{if◌then◌else◌}
use Rattle.std.specs.Str.{bytes_eq}
use Rattle.i9_text.specs.Text.{is_blank, is_in_word}
use Rattle.i9_statement.specs.declared.fault.Fault.{Fault}
use Rattle.i9_statement.specs.declared.fault.Fault.TheVariants as fault
use Rattle.i9_asm.specs.declared.comments.Quote.{Quote}
use Rattle.i9_asm.specs.declared.comments.Quote.TheVariants.{Outside, Quoted, Escaped}
use Rattle.i9_statement.specs.Cut.{before, from}
use Rattle.i9_statement.specs.Fields.{fields_of}

-- `"`, `#`, `.` and `\`
abbrev pub quote : ℕ
quote = 34

abbrev pub hash : ℕ
hash = 35

abbrev pub dot : ℕ
dot = 46

abbrev pub backslash : ℕ
backslash = 92

-- ---- the comment

abbrev pub next_quote : Quote → ℕ → Quote
next_quote Outside b = if b == quote then Quoted else Outside
next_quote Quoted b = if b == backslash then Escaped else if b == quote then Outside else Quoted
next_quote Escaped b = Quoted

-- a comment begins at a `#` outside of a string
abbrev pub is_comment : Quote → ℕ → Bool
is_comment Outside b = b == hash
is_comment _ b = false

-- how many bytes stand before the comment
unfoldable pub code_len : Quote → List ℕ → ℕ
code_len m [] = 0
code_len m (b ∷ bs) = if is_comment m b then 0 else code_len (next_quote m b) bs + 1

-- the line before its comment
abbrev pub without_comment : List ℕ → List ℕ
without_comment line = take (code_len Outside line) line

-- ---- the label

abbrev pub colon : ℕ
colon = 58

-- what ends a first word
abbrev pub ends_head : ℕ → Bool
ends_head b = is_blank b || (b == colon)

-- a label, and what stands behind it from its first word on
pub record Labelled : Type 0 where
  pub label : Option (List ℕ)
  pub rest : List ℕ

-- by the first word and what stands behind it
abbrev pub labelled_by : List ℕ → List ℕ → List ℕ → Labelled
labelled_by s head [] = record { label = None; rest = s }
labelled_by s head (b ∷ t) =
    if b == colon then record { label = Some head; rest = from is_in_word t }
    else record { label = None; rest = s }

-- of a line from its first word on
unfoldable pub labelled : List ℕ → Labelled
labelled s = labelled_by s (before ends_head s) (from ends_head s)

-- ---- what follows

-- What a line says, by its first word. `Bad` is an unknown directive, or one with the wrong number of values; `Data`
-- has how many bytes each of its values has, and `Ascii` and `Instruction` the text that is left.
pub data Item : Type 0 where
  Empty : Item
  Bad : Fault → Item
  Org : List ℕ → Item
  Space : List ℕ → Item
  Align : List ℕ → Item
  Set : List ℕ → List ℕ → Item
  Data : ℕ → List (List ℕ) → Item
  Ascii : List ℕ → Item
  Instruction : List ℕ → Item

-- a directive with one value
abbrev pub one_value : (List ℕ → Item) → List (List ℕ) → Item
one_value item (f ∷ []) = item f
one_value item _ = Bad fault.Form

-- a directive with a name and a value
abbrev pub two_values : (List ℕ → List ℕ → Item) → List (List ℕ) → Item
two_values item (f ∷ g ∷ []) = item f g
two_values item _ = Bad fault.Form

-- a directive with one value or more
abbrev pub some_values : ℕ → List (List ℕ) → Item
some_values width [] = Bad fault.Form
some_values width (f ∷ fs) = Data width (f ∷ fs)

-- a directive, by its name and what stands behind it
abbrev pub directive_of : List ℕ → List ℕ → Item
directive_of name rest =
    if bytes_eq name (codes ".word") then some_values 4 (fields_of rest)
    else if bytes_eq name (codes ".short") then some_values 2 (fields_of rest)
    else if bytes_eq name (codes ".byte") then some_values 1 (fields_of rest)
    else if bytes_eq name (codes ".org") then one_value Org (fields_of rest)
    else if bytes_eq name (codes ".space") then one_value Space (fields_of rest)
    else if bytes_eq name (codes ".align") then one_value Align (fields_of rest)
    else if bytes_eq name (codes ".set") then two_values Set (fields_of rest)
    else if bytes_eq name (codes ".ascii") then Ascii rest
    else Bad fault.UnknownMnemonic

-- a directive begins with a dot
abbrev pub item_by : List ℕ → Item
item_by [] = Empty
item_by (b ∷ s) =
    if b == dot then directive_of (before is_blank (b ∷ s)) (from is_blank (b ∷ s)) else Instruction (b ∷ s)

-- a line without its comment
abbrev pub code_of : List ℕ → Labelled
code_of line = labelled (from is_in_word (without_comment line))

-- what a line says behind its label
unfoldable pub item_of : List ℕ → Item
item_of line = item_by (code_of line).rest

-- the label of a line
abbrev pub label_of : List ℕ → Option (List ℕ)
label_of line = (code_of line).label

-- a line that says an item and has no label
pub record Says (line : List ℕ) (said : Item) : Type 0 where
  pub item : item_of line ≡ said
  pub label : label_of line ≡ None
