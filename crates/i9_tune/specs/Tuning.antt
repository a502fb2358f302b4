-- What is printed of a block that is tuned, and of one that is at fault.
use Rattle.std.specs.Prelude.{◌≡◌, ℕ, ◌+◌, ◌*◌, List, [], ◌∷◌, ◌++◌, length, codes, Option, Some, None}
use Rattle.std.specs.Fmt.{decimal}
use Rattle.std.specs.List.{flat_map}
use Rattle.std.specs.Int.{w32, to_le_bytes}
use Rattle.i9_isa.specs.declared.inst.Inst.{Inst}
use Rattle.i9_isa.specs.Words.{words_of}
use Rattle.i9_decode.specs.declared.encoder.Code.{Code}
use Rattle.i9_text.specs.Text.{space}
use Rattle.i9_text.specs.Written.{word_text}
use Rattle.i9_model.specs.Writes.{wrapped}
use Rattle.i9_hex.specs.Writing.{with_line_feed}
use Rattle.i9_statement.specs.Codes.{IsCode}
use Rattle.i9_asm.specs.Listing.{first_line, org_line}
use Rattle.i9_tune.specs.declared.block.BlockFault.{BlockFault}
use Rattle.i9_tune.specs.Greedy.{span_of, IsTuned}
use Rattle.i9_tune.specs.Reading.{kind_of}

-- ---- words

-- the words of an instruction, none of whose ignored bits is set
pub data IsCodeOf (i : Inst) : List ℕ → Type 0 where
  one_word : (w : ℕ) → words_of i ≡ 1 → ((v : ℕ) → IsCode i 0 w v) → IsCodeOf i (w ∷ [])
  two_words : (w v : ℕ) → words_of i ≡ 2 → IsCode i 0 w v → IsCodeOf i (w ∷ v ∷ [])

-- those of instructions
pub data AreCodes : List Inst → List (List ℕ) → Type 0 where
  no_codes : AreCodes [] []
  more_codes : (i : Inst) (is : List Inst) (ws : List ℕ) (wss : List (List ℕ)) → IsCodeOf i ws → AreCodes is wss
      → AreCodes (i ∷ is) (ws ∷ wss)

-- ---- lines

-- the line of an instruction at an address by its words, as a listing has it
abbrev pub code_line : ℕ → List ℕ → List ℕ
code_line a ws = first_line a (flat_map (to_le_bytes w32) ws)

-- those of instructions from an address on; addresses run on from FFFFFFFF to 0
abbrev pub code_lines : ℕ → List (List ℕ) → List (List ℕ)
code_lines a [] = []
code_lines a (ws ∷ wss) = code_line a ws ∷ code_lines (wrapped (a + 4 * length ws)) wss

-- the line of both spans
abbrev pub spans_line : ℕ → List Inst → List Inst → List ℕ
spans_line a block tuned =
    codes "#tune " ++ word_text a ++ codes " " ++ decimal (length block) ++ codes " " ++ decimal (span_of block)
    ++ codes " " ++ decimal (span_of tuned)

-- the lines of a block at an address in another order, each with a line feed
pub record IsText (a : ℕ) (block tuned : List Inst) (text : List ℕ) : Type 0 where
  pub codes : List (List ℕ)
  pub words : AreCodes tuned codes
  pub whole : text ≡ flat_map with_line_feed (org_line a ∷ (code_lines a codes ++ spans_line a block tuned ∷ []))

-- the lines of the tuned block
pub record IsTuning (a : ℕ) (block : List Inst) (text : List ℕ) : Type 0 where
  pub tuned : List Inst
  pub is : IsTuned block tuned
  pub lines : IsText a block tuned text

-- the line of the first instruction at fault
abbrev pub fault_line : BlockFault → List ℕ
fault_line f = with_line_feed (codes "#block kind " ++ decimal (kind_of f.flaw) ++ codes " " ++ word_text f.address)

-- ---- what is put behind a text

-- the words of a code
abbrev pub words_in : Code → List ℕ
words_in code = code.first ∷ second_in code.second
  where
    second_in : Option ℕ → List ℕ
    second_in (Some v) = v ∷ []
    second_in None = []

-- a word, or a number, behind a space
abbrev pub spaced : ℕ → List ℕ
spaced w = space ∷ word_text w

abbrev pub spaced_number : ℕ → List ℕ
spaced_number n = space ∷ decimal n

-- the line of an instruction
pub record AddsLine (a : ℕ) (i : Inst) (old new : List ℕ) : Type 0 where
  pub words : List ℕ
  pub is : IsCodeOf i words
  pub text : new ≡ old ++ with_line_feed (code_line a words)

-- the lines of instructions
pub record AddsLines (a : ℕ) (is : List Inst) (old new : List ℕ) : Type 0 where
  pub codes : List (List ℕ)
  pub words : AreCodes is codes
  pub text : new ≡ old ++ flat_map with_line_feed (code_lines a codes)
