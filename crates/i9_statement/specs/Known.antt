-- The names that are known somewhere, and their values.
use Rattle.std.specs.Prelude.{ℕ, ◌+◌, ◌*◌, ◌/◌, ◌%◌, ◌^◌, nat_lt, List, [], ◌∷◌, take, drop, Option, Some, None}
use Rattle.std.specs.Prelude.{is_some, if◌then◌else◌}
use Rattle.std.specs.Option.{option_map, option_and_then}
use Rattle.std.specs.declared.cmp.Ordering.{Ordering}
use Rattle.std.specs.Ordering.{nat_cmp, ordering_then}
use Rattle.std.specs.BTreeMap.{get}
use Rattle.std.specs.Int.Bits.{bit_xor}
use Rattle.std.specs.Map.{update}
use Rattle.std.specs.Str.{bytes_eq}
use Rattle.i9_statement.specs.declared.known.Definition.{Definition}
use Rattle.i9_statement.specs.declared.known.Table.{Table}
use Rattle.i9_statement.specs.declared.known.Known as code
use Rattle.i9_statement.specs.declared.known.Known.TheVariants.{Nothing, All, Before}
use Rattle.i9_statement.specs.Values.{Names, is_name}

-- ---- a table

-- the number that bytes are the digits of, the first one lowest
unfoldable pub word_of : List ℕ → ℕ
word_of [] = 0
word_of (b ∷ s) = b + 256 * word_of s

-- a number that tells most texts of four words apart
abbrev pub mark_of : ℕ → ℕ → ℕ → ℕ → ℕ
mark_of a b c d =
    let sum = (((a + b) % 2 ^ 128 + c) % 2 ^ 128 + d) % 2 ^ 128 in
    bit_xor (sum % 2 ^ 64) (sum / 2 ^ 64)

-- the words of a name, sixteen bytes in each, behind their mark
abbrev pub Key : Type 0
Key = ℕ × ℕ × ℕ × ℕ × ℕ

abbrev pub key_with : ℕ → ℕ → ℕ → ℕ → Key
key_with a b c d = (mark_of a b c d, a, b, c, d)

unfoldable pub key_of : List ℕ → Key
key_of name =
    key_with (word_of (take 16 name)) (word_of (take 16 (drop 16 name))) (word_of (take 16 (drop 16 (drop 16 name))))
    (word_of (drop 16 (drop 16 (drop 16 name))))

-- the order of keys
abbrev pub key_cmp : Key → Key → Ordering
key_cmp x y =
    let three = ordering_then (ordering_then (ordering_then (nat_cmp x.0 y.0) (nat_cmp x.1 y.1)) (nat_cmp x.2 y.2))
    (nat_cmp x.3 y.3) in
    ordering_then three (nat_cmp x.4 y.4)

-- the definitions of the names in a table
unfoldable pub definitions : Table → List ℕ → Option Definition
definitions table name = if is_name name then get key_cmp table.map (key_of name) else None

-- the first definition of a name counts
abbrev pub enter : List ℕ → Definition → (List ℕ → Option Definition) → List ℕ → Option Definition
enter name d table = if is_some (table name) then table else update bytes_eq table name (Some d)

-- ---- the names that are known

-- the values of all names of a table
abbrev pub values_of : (List ℕ → Option Definition) → Names
values_of table name = option_map (λ d. d.value) (table name)

-- the value of a definition, if it was made before a step
abbrev pub value_before : ℕ → Definition → Option ℕ
value_before step d = if nat_lt d.step step then Some d.value else None

-- the values of the names that were defined before a step
abbrev pub values_before : ℕ → (List ℕ → Option Definition) → Names
values_before step table name = option_and_then (value_before step) (table name)

-- the values of the names that are known
unfoldable pub known_in : code.Known → Names
known_in Nothing name = None
known_in (All table) name = values_of (definitions table.now) name
known_in (Before table step) name = values_before step (definitions table.now) name
