-- The text of words, and listings.
use Rattle.std.specs.Prelude.{◌≡◌, ℕ, ◌+◌, ◌*◌, ◌%◌, ◌==◌, ◌||◌, nat_lt, Bool, List, [], ◌∷◌, ◌++◌, length}
use Rattle.std.specs.Prelude.{take, drop, codes, Result, Ok, Err, get_or, if◌then◌else◌}
use Rattle.std.specs.List.{flat_map}
use Rattle.std.specs.Int.{w32, to_le_bytes, from_le_bytes}
use Rattle.std.specs.Int.Bits.{bit_and}
use Rattle.i9_isa.specs.declared.inst.Inst.{Inst}
use Rattle.i9_isa.specs.declared.inst.BadWord.{BadWord}
use Rattle.i9_isa.specs.Words.{words_of, decoded}
use Rattle.i9_decode.specs.Ignored.{ignored_bits}
use Rattle.i9_model.specs.Image.{Part}
use Rattle.i9_hex.specs.Writing.{with_line_feed}
use Rattle.i9_text.specs.Text.{space}
use Rattle.i9_text.specs.Written.{word_text, byte_text}
use Rattle.i9_statement.specs.NumberText.{hex_text, hex_byte_text}
use Rattle.i9_statement.specs.Statements.{statement_text}
use Rattle.i9_statement.specs.Codes.{taken}
use Rattle.i9_asm.specs.Lines.{hash}
use Rattle.i9_hex.specs.Runs.{AreRuns}

-- ---- the statement of two words

-- of a refused word a number
abbrev pub text_by : ℕ → ℕ → Result Inst BadWord → List ℕ
text_by ip w0 (Ok i) = statement_text ip i (bit_and w0 (ignored_bits i))
text_by ip w0 (Err e) = codes ".word " ++ hex_text w0

-- of two words at an address
unfoldable pub text_of : ℕ → ℕ → ℕ → List ℕ
text_of ip w0 w1 = text_by ip w0 (decoded w0 w1)

-- the words that the statement is printed of
abbrev pub printed_words : ℕ → ℕ → Result Inst BadWord → List ℕ
printed_words w0 w1 (Ok i) = taken w0 w1 i
printed_words w0 w1 (Err e) = w0 ∷ []

-- and their bytes
abbrev pub printed_bytes : ℕ → ℕ → List ℕ
printed_bytes w0 w1 = flat_map (to_le_bytes w32) (printed_words w0 w1 (decoded w0 w1))

-- ---- the lines of a run

-- the word that begins at a place of these bytes, low byte first; 0 stands for bytes that aren't there
abbrev pub word_at : ℕ → List ℕ → ℕ
word_at k bs = from_le_bytes w32 (take 4 (drop k bs))

-- how many bytes the first line of a run says, at an address: one, or those of an instruction that is whole
abbrev pub whole_size : Result Inst BadWord → ℕ → ℕ
whole_size (Ok i) n = if nat_lt n (4 * words_of i) then 4 else 4 * words_of i
whole_size (Err e) n = 4

-- a line says one byte before the first multiple of 4, and where too few bytes are left for a word
abbrev pub is_single : ℕ → List ℕ → Bool
is_single a bs = nat_lt (length bs) 4 || nat_lt 0 (a % 4)

-- how many bytes the first line of a run says
abbrev pub line_size : ℕ → List ℕ → ℕ
line_size a bs = if is_single a bs then 1 else whole_size (decoded (word_at 0 bs) (word_at 4 bs)) (length bs)

-- an instruction whose second word isn't there is printed as a refused word
abbrev pub whole_text : ℕ → List ℕ → Result Inst BadWord → List ℕ
whole_text a bs (Ok i) =
    if nat_lt (length bs) (4 * words_of i) then codes ".word " ++ hex_text (word_at 0 bs)
    else text_by a (word_at 0 bs) (Ok i)
whole_text a bs (Err e) = text_by a (word_at 0 bs) (Err e)

-- what the first line of a run says
abbrev pub said_text : ℕ → List ℕ → List ℕ
said_text a bs =
    if is_single a bs then codes ".byte " ++ hex_byte_text (get_or bs 0 0)
    else whole_text a bs (decoded (word_at 0 bs) (word_at 4 bs))

-- the words, or the byte, behind the address in the comment
abbrev pub noted_words : ℕ → List ℕ → List ℕ
noted_words n bs =
    if n == 1 then space ∷ byte_text (get_or bs 0 0)
    else if n == 4 then space ∷ word_text (word_at 0 bs)
    else (space ∷ word_text (word_at 0 bs)) ++ (space ∷ word_text (word_at 4 bs))

-- the first line of a run
abbrev pub first_line : ℕ → List ℕ → List ℕ
first_line a bs = said_text a bs ++ space ∷ hash ∷ space ∷ (word_text a ++ noted_words (line_size a bs) bs)

-- the lines of bytes from an address on
pub data Lists : ℕ → List ℕ → List (List ℕ) → Type 0 where
  lists_none : (a : ℕ) → Lists a [] []
  lists_line : (a b : ℕ) (bs : List ℕ) (lines : List (List ℕ))
      → Lists (a + line_size a (b ∷ bs)) (drop (line_size a (b ∷ bs)) (b ∷ bs)) lines
      → Lists a (b ∷ bs) (first_line a (b ∷ bs) ∷ lines)

-- the line before a run
abbrev pub org_line : ℕ → List ℕ
org_line a = codes ".org " ++ hex_text a

-- the lines of runs, one after the other
pub data ListsAll : List Part → List (List ℕ) → Type 0 where
  lists_all : ListsAll [] []
  lists_run : (a : ℕ) (bs : List ℕ) (runs : List Part) (lines more : List (List ℕ))
      → Lists a bs lines → ListsAll runs more
      → ListsAll (record { address = a; bytes = bs } ∷ runs) (org_line a ∷ (lines ++ more))

-- ---- the listing of an image

-- the listing of an image: the lines of its runs, each with a line feed behind it
pub record IsListing (image : List Part) (text : List ℕ) : Type 0 where
  pub runs : List Part
  pub lines : List (List ℕ)
  pub are : AreRuns image runs
  pub listed : ListsAll runs lines
  pub whole : flat_map with_line_feed lines ≡ text
