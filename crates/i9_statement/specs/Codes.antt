-- Words of statements.
use Rattle.std.specs.Prelude.{◌≡◌, ℕ, ◌<◌, ◌^◌, ◌==◌, List, [], ◌∷◌, if◌then◌else◌}
use Rattle.std.specs.Int.Bits.{bit_and}
use Rattle.i9_isa.specs.declared.inst.Inst.{Inst}
use Rattle.i9_isa.specs.Words.{words_of, Encodes}
use Rattle.i9_decode.specs.Ignored.{ignored_bits}
use Rattle.i9_statement.specs.Noted.{fine}
use Rattle.i9_statement.specs.Values.{Names}
use Rattle.i9_statement.specs.Statements.{said, statement_of}

-- the words are those of the instruction, with exactly these of its ignored bits set
pub record IsCode (i : Inst) (bits w0 w1 : ℕ) : Type 0 where
  pub form : Encodes w0 w1 i
  pub spare : bit_and w0 (ignored_bits i) ≡ bits
  pub small : w0 < 2 ^ 32

-- the words that a statement without fault stands for at an address, one or two of them
pub data Stands (names : Names) (ip : ℕ) (s : List ℕ) : List ℕ → Type 0 where
  stands_one : (i : Inst) (bits w0 : ℕ) → statement_of ip names s ≡ fine (said i bits) → words_of i ≡ 1
      → ((w1 : ℕ) → IsCode i bits w0 w1) → Stands names ip s (w0 ∷ [])
  stands_two : (i : Inst) (bits w0 w1 : ℕ) → statement_of ip names s ≡ fine (said i bits) → words_of i ≡ 2
      → IsCode i bits w0 w1 → Stands names ip s (w0 ∷ w1 ∷ [])

-- the words that an instruction has of two
abbrev pub taken : ℕ → ℕ → Inst → List ℕ
taken w0 w1 i = if words_of i == 1 then w0 ∷ [] else w0 ∷ w1 ∷ []
