-- The operands of a statement, between commas.
use Rattle.std.specs.Prelude.{ℕ, ◌==◌, Bool, List, [], ◌∷◌, ◌++◌, map, Option, Some, None}
use Rattle.std.specs.Borrow.{Bor}
use Rattle.std.specs.List.{slice_split}
use Rattle.i9_text.specs.Text.{space, words_of}

-- `,`
abbrev pub comma : ℕ
comma = 44

abbrev pub is_comma : ℕ → Bool
is_comma b = b == comma

-- the one word between two commas; with none, or several, the operand is malformed, as an empty text is
abbrev pub one_word : List (List ℕ) → List ℕ
one_word (w ∷ []) = w
one_word _ = []

-- an operand, without the blanks round it
abbrev pub field_of : List ℕ → List ℕ
field_of part = one_word (words_of part)

-- by the words of the text
abbrev pub fields_by : List (List ℕ) → List ℕ → List (List ℕ)
fields_by [] text = []
fields_by (w ∷ ws) text = map field_of (slice_split is_comma text)

-- the operands of a text; a blank one has none
unfoldable pub fields_of : List ℕ → List (List ℕ)
fields_of text = fields_by (words_of text) text

-- operands as they are printed: divided by a comma and a space
unfoldable pub join_fields : List (List ℕ) → List ℕ
join_fields [] = []
join_fields (f ∷ []) = f
join_fields (f ∷ g ∷ fs) = f ++ comma ∷ space ∷ join_fields (g ∷ fs)

-- the operands that a reader has not read
abbrev pub fields_left : Option (Bor (List ℕ)) → List (List ℕ)
fields_left None = []
fields_left (Some text) = map field_of (slice_split is_comma text.now)
