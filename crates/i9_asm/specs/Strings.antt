-- The characters of a string.
use Rattle.std.specs.Prelude.{ℕ, ◌==◌, List, [], ◌∷◌, Option, Some, None, if◌then◌else◌}
use Rattle.i9_text.specs.Text.{line_feed, is_in_word}
use Rattle.i9_statement.specs.Cut.{from}
use Rattle.i9_asm.specs.Lines.{quote, backslash}

-- `n` and `0`
abbrev pub small_n : ℕ
small_n = 110

abbrev pub zero_digit : ℕ
zero_digit = 48

-- the character of an escape
abbrev pub escaped : ℕ → Option ℕ
escaped b =
    if b == small_n then Some line_feed
    else if b == zero_digit then Some 0
    else if b == quote then Some quote
    else if b == backslash then Some backslash
    else None

-- nothing but blanks stands behind the closing quote
abbrev pub if_blank : List ℕ → Option (List ℕ)
if_blank [] = Some []
if_blank (b ∷ s) = None

-- a character, and those behind it
abbrev pub before_characters : Option ℕ → Option (List ℕ) → Option (List ℕ)
before_characters (Some c) (Some cs) = Some (c ∷ cs)
before_characters _ _ = None

-- behind the opening quote, up to the closing one, behind which only blanks stand
unfoldable pub characters : List ℕ → Option (List ℕ)
characters [] = None
characters (b ∷ []) = if b == quote then Some [] else None
characters (b ∷ c ∷ s) =
    if b == quote then if_blank (from is_in_word (c ∷ s))
    else if b == backslash then before_characters (escaped c) (characters s)
    else before_characters (Some b) (characters (c ∷ s))

-- behind an opening quote
abbrev pub opened : List ℕ → Option (List ℕ)
opened [] = None
opened (b ∷ s) = if b == quote then characters s else None

-- the characters of a string with blanks round it
unfoldable pub string_of : List ℕ → Option (List ℕ)
string_of s = opened (from is_in_word s)
