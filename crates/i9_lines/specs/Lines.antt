-- The lines that are printed beside those of a run: of what was refused, and of the run of a made job.
use Rattle.std.specs.Prelude.{ℕ, List, [], ◌∷◌, ◌++◌, length, drop, codes}
use Rattle.std.specs.Fmt.{decimal}
use Rattle.i9_model.specs.declared.run.End.{End}
use Rattle.i9_model.specs.PrintedText.{end_text}

-- ---- a file that is refused

-- the first line at fault and its kind
unfoldable pub refused_line : List ℕ → ℕ × ℕ → List ℕ
refused_line what fault = codes "#" ++ what ++ codes " line " ++ decimal fault.0 ++ codes " kind " ++ decimal fault.1
    ++ 10 ∷ []

-- of an ELF image the kind of its fault
unfoldable pub elf_line : ℕ → List ℕ
elf_line kind = codes "#image elf kind " ++ decimal kind ++ 10 ∷ []

-- ---- the run of the job that is made from a number

-- what the line of an end has behind `#end `
unfoldable pub ending : End → List ℕ
ending f = drop (length (codes "#end ")) (end_text f)

-- the number, the instructions that were done, the events that were taken, and the end
unfoldable pub generated_line : ℕ → ℕ → ℕ → End → List ℕ
generated_line number count events f =
    codes "#gen " ++ decimal number ++ codes " " ++ decimal count ++ codes " " ++ decimal events ++ codes " "
    ++ ending f
