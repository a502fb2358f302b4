-- The table of names that the first pass leaves: each name with its value and the step of its definition. The label of
-- the line behind n lines is defined at step 2 n, and what `.set` assigns there at step 2 n + 1.
use Rattle.std.specs.Prelude.{ℕ, ◌+◌, ◌&&◌, List, [], ◌∷◌, Option, Some, None, is_some, if◌then◌else◌}
use Rattle.i9_statement.specs.declared.known.Definition.{Definition}
use Rattle.i9_statement.specs.Known.{enter}
use Rattle.i9_statement.specs.Values.{is_name, value_of, settled}
use Rattle.i9_asm.specs.Lines.{Item, Set, label_of}
use Rattle.i9_asm.specs.Places.{Place, address_at, past_label, past_line, effect_of}

-- the definitions of names
abbrev pub Definitions : Type 0
Definitions = List ℕ → Option Definition

-- no name is defined
abbrev pub no_definitions : Definitions
no_definitions name = None

-- behind a label at an address
abbrev pub label_entered : Option (List ℕ) → ℕ → ℕ → Definitions → Definitions
label_entered None address step table = table
label_entered (Some name) address step table =
    if is_name name then enter name (record { value = address; step = step }) table else table

-- behind an item
abbrev pub item_entered : Place → ℕ → Item → Definitions → Definitions
item_entered p step (Set name f) table =
    let v = value_of p.known f in
    if is_name name && is_some v then enter name (record { value = (settled v).value; step = step }) table else table
item_entered p step _ table = table

-- behind a line whose label is defined at this step
abbrev pub line_entered : Place → ℕ → List ℕ → Definitions → Definitions
line_entered p step line table =
    item_entered (past_label (label_of line) p) (step + 1) (effect_of line)
    (label_entered (label_of line) (address_at p) step table)

-- behind all lines
unfoldable pub lines_entered : Place → ℕ → List (List ℕ) → Definitions → Definitions
lines_entered p step [] table = table
lines_entered p step (line ∷ lines) table = lines_entered (past_line p line) (step + 2) lines
    (line_entered p step line table)
