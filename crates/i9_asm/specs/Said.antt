-- What a line says, as the code has it.
use Rattle.std.specs.Prelude.{ℕ, List, Option, Some, None}
use Rattle.std.specs.Borrow.{Bor}
use Rattle.i9_asm.specs.declared.lines.Width.{Width}
use Rattle.i9_asm.specs.declared.lines.Width.TheVariants.{Byte, Short, Word}
use Rattle.i9_asm.specs.declared.lines.Said as code
use Rattle.i9_asm.specs.declared.lines.Said.TheVariants as said
use Rattle.i9_statement.specs.Fields.{fields_left}
use Rattle.i9_asm.specs.Lines.{Item, Empty, Bad, Org, Space, Align, Set, Data, Ascii, Instruction, Labelled}

-- how many bytes a value has
abbrev pub bytes_of : Width → ℕ
bytes_of Byte = 1
bytes_of Short = 2
bytes_of Word = 4

abbrev pub item_as : code.Said → Item
item_as said.Empty = Empty
item_as (said.Bad f) = Bad f
item_as (said.Org f) = Org f.now
item_as (said.Space f) = Space f.now
item_as (said.Align f) = Align f.now
item_as (said.Set n f) = Set n.now f.now
item_as (said.Data width text) = Data (bytes_of width) (fields_left (Some text))
item_as (said.Ascii s) = Ascii s.now
item_as (said.Instruction s) = Instruction s.now

-- a label and what stands behind it
abbrev pub label_as : Option (Bor (List ℕ)) → Bor (List ℕ) → Labelled
label_as None rest = record { label = None; rest = rest.now }
label_as (Some w) rest = record { label = Some w.now; rest = rest.now }

-- a label
abbrev pub label_in : Option (Bor (List ℕ)) → Option (List ℕ)
label_in None = None
label_in (Some w) = Some w.now
