-- Lines, words and numbers of a text of bytes.
use Rattle.std.specs.Prelude.{ℕ, ◌+◌, List, [], map, filter, length, Bool, ◌==◌, ◌&&◌, ◌||◌, not, nat_lt, nat_le}
use Rattle.std.specs.Prelude.{Option, Some, None, if◌then◌else◌}
use Rattle.std.specs.Borrow.{Bor}
use Rattle.std.specs.List.{slice_split, list_all}
use Rattle.std.specs.Char.{is_digit}
use Rattle.std.specs.Str.Lines.{strip_carriage_return}
use Rattle.std.specs.Str.Parse.{digits_value}

abbrev pub line_feed : ℕ
line_feed = 10

abbrev pub tab : ℕ
tab = 9

abbrev pub space : ℕ
space = 32

abbrev pub is_line_feed : ℕ → Bool
is_line_feed b = b == line_feed

-- The parts between line feeds, each without one carriage return at its end. There is one more than there are line
-- feeds, so the last may be empty.
abbrev pub lines_of : List ℕ → List (List ℕ)
lines_of text = map strip_carriage_return (slice_split is_line_feed text)

-- what divides words
abbrev pub is_blank : ℕ → Bool
is_blank b = (b == space) || (b == tab)

abbrev pub is_in_word : ℕ → Bool
is_in_word b = not (is_blank b)

abbrev pub is_some_word : List ℕ → Bool
is_some_word w = nat_lt 0 (length w)

-- the parts between blanks that are not empty
abbrev pub words_of : List ℕ → List (List ℕ)
words_of line = filter is_some_word (slice_split is_blank line)

abbrev pub are_digits : ℕ → List ℕ → Bool
are_digits radix word = list_all (λ c. is_digit c radix) word

-- the number of a word of one to most digits, of either case
unfoldable pub number_of : ℕ → ℕ → List ℕ → Option ℕ
number_of radix most word =
    if nat_lt 0 (length word) && nat_le (length word) most && are_digits radix word then Some (digits_value radix word)
    else None

-- the lines that a reader has not read, of the text that is left
abbrev pub lines_left : Option (Bor (List ℕ)) → List (List ℕ)
lines_left None = []
lines_left (Some text) = lines_of text.now

-- what falls with each line that is read
abbrev pub left_len : Option (Bor (List ℕ)) → ℕ
left_len None = 0
left_len (Some text) = length text.now + 1
