-- The words of a text, of which each has a line of its own.
use Rattle.std.specs.Prelude.{ℕ, List, []}
use Rattle.std.specs.List.{AllByRecursion}
use Rattle.std.specs.Str.{IsUtf8}
use Rattle.i9_text.specs.Text.{lines_of}

-- The words that a text asks with: its lines, or none at all where one of them isn't UTF-8.
pub data AsksWith (text : List ℕ) : List (List ℕ) → Type 0 where
  lines : AllByRecursion IsUtf8 (lines_of text) → AsksWith text (lines_of text)
  no_text : ¬ (AllByRecursion IsUtf8 (lines_of text)) → AsksWith text []
