-- What the program ends with.
use Rattle.std.specs.Prelude.{◌≡◌, ℕ, List, String}
use Rattle.i9_lines.specs.Print.{Output}
use Rattle.i9_tool.specs.Fetches.{Stock, FetchesFiles, AnyRose, rose_in}
use Rattle.i9_tool.specs.Outcome.{Answers, Outcomes, asked_for, files_for, names_of}

-- Of words: the status and the text are those that the words and the files give, and the files that the words name were
-- fetched in order, each once.
pub record EndsWith {F K Z : Type 0} (words : List (String Z)) (code : ℕ) (files : Stock F) (out : Output K)
    : Type 0 where
  pub answers : Answers (Outcomes files.shelf.told files.shelf.faults files.old files.new words) code
      out.account out.old out.new
  pub fetched : FetchesFiles files.shelf code (files_for (asked_for words)) files.old files.new
  pub read : code ≡ 5 → AnyRose (rose_in files.shelf.faults files.old files.new) (names_of (asked_for words))
