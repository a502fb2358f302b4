-- The trace of a run: the lines of instructions.
use Rattle.std.specs.Prelude.{◌≡◌, ℕ, Bool, true, false, List, ◌++◌, codes, Option, Some, None, Result, Ok, Err}
use Rattle.std.specs.Fmt.{decimal}
use Rattle.std.specs.Global.{Vec}
use Rattle.i9_isa.specs.declared.inst.NoMemory.{NoMemory}
use Rattle.i9_model.specs.PrintedText.{spaced, line_feed}
use Rattle.i9_asm.specs.Listing.{text_of}
use Rattle.i9_machine.specs.declared.line.Issued.{Issued}

-- the line of an instruction: how many came before it, its address, and the statement of its two words
unfoldable pub trace_text : ℕ → ℕ → ℕ → ℕ → List ℕ
trace_text count address first second = codes "#t " ++ decimal count ++ spaced address ++ codes " "
    ++ text_of address first second ++ line_feed

-- What is given for an instruction under the relation of a filter, the answers that it allows at an address. There is a
-- line, the instruction's, only where true is allowed at its address, and none only where false is. Memory is wanted
-- for a line alone.
abbrev pub IsTraced : (ℕ → Bool → Type 0) → Issued → Result (Option (Vec ℕ)) NoMemory → Type 0
IsTraced allows i (Ok (Some line)) = allows i.address true
    × (line.items ≡ trace_text i.count i.address i.first i.second)
IsTraced allows i (Ok None) = allows i.address false
IsTraced allows i (Err e) = allows i.address true
