-- Memory: a byte for each address below 2^32, and the memory configuration word of each of its sixteen regions.
use Rattle.std.specs.Prelude.{ℕ, ◌+◌, ◌*◌, ◌/◌, ◌%◌, ◌^◌, Bool, not, ◌==◌, ◌&&◌, nat_le, nat_lt, if◌then◌else◌, List}
use Rattle.std.specs.Prelude.{[], ◌∷◌, filter, map, Option, Some}
use Rattle.std.specs.List.{range_with_len}
use Rattle.std.specs.Option.{option_and_then}
use Rattle.std.specs.Int.{w16, w32, from_le_bytes, from_be_bytes, to_le_bytes, to_be_bytes}
use Rattle.i9_model.specs.declared.layout.TheConstants.{PORT_PAGE, PORT_PAGE_SIZE, CONSOLE, EXIT_WORD}
use Rattle.i9_model.specs.Writes.{wrapped, put, written, last_put, upwards}

pub record Memory : Type 0 where
  pub bytes : ℕ → ℕ
  pub mcon : ℕ → ℕ

-- the port page reads as 0 and is never stored to
abbrev pub in_port_page : ℕ → Bool
in_port_page a = nat_le PORT_PAGE a && nat_lt a (PORT_PAGE + PORT_PAGE_SIZE)

-- bytes after writes, of which those in the port page are dropped
abbrev pub stored : (ℕ → ℕ) → List (ℕ × ℕ) → ℕ → ℕ
stored m ps = written m (filter (λ p. not (in_port_page p.0)) ps)

-- ---- byte orders

-- the region of an address is its top four bits
abbrev pub region_of : ℕ → ℕ
region_of a = a / 2 ^ 28

-- bit 22 of a region's memory configuration word says that the region is big-endian
abbrev pub is_big : Memory → ℕ → Bool
is_big m region = m.mcon region / 2 ^ 22 % 2 == 1

-- the waits of a read are bits 3 to 7 of that word, those of a write bits 12 to 16
abbrev pub waits_of : Memory → ℕ → Bool → ℕ
waits_of m region write = if write then m.mcon region / 2 ^ 12 % 32 else m.mcon region / 2 ^ 3 % 32

-- a half and a word in the order of the region of their first byte
unfoldable pub half_in : Memory → ℕ → ℕ
half_in m a =
    let bytes = m.bytes a ∷ m.bytes (wrapped (a + 1)) ∷ [] in
    if is_big m (region_of a) then from_be_bytes w16 bytes else from_le_bytes w16 bytes

abbrev pub ordered_word : Memory → ℕ → List ℕ → ℕ
ordered_word m a bytes = if is_big m (region_of a) then from_be_bytes w32 bytes else from_le_bytes w32 bytes

unfoldable pub word_in : Memory → ℕ → ℕ
word_in m a = ordered_word m a
    (m.bytes a ∷ m.bytes (wrapped (a + 1)) ∷ m.bytes (wrapped (a + 2)) ∷ m.bytes (wrapped (a + 3)) ∷ [])

-- the bytes of a half and of a word that are stored at an address
unfoldable pub half_bytes : Memory → ℕ → ℕ → List ℕ
half_bytes m a v = if is_big m (region_of a) then to_be_bytes w16 v else to_le_bytes w16 v

unfoldable pub word_bytes : Memory → ℕ → ℕ → List ℕ
word_bytes m a v = if is_big m (region_of a) then to_be_bytes w32 v else to_le_bytes w32 v

-- a memory after writes
abbrev pub with_writes : Memory → List (ℕ × ℕ) → Memory
with_writes m ps = record m { bytes = stored m.bytes ps }

-- a memory after bytes were stored from an address on
abbrev pub with_bytes : Memory → ℕ → List ℕ → Memory
with_bytes m a bs = with_writes m (upwards a bs)

-- a memory after words were stored from an address on, one by one
unfoldable pub with_words : Memory → ℕ → List ℕ → Memory
with_words m a [] = m
with_words m a (w ∷ ws) = with_words (with_bytes m a (word_bytes m a w)) (wrapped (a + 4)) ws

-- so many words from an address on
abbrev pub words_in : Memory → ℕ → ℕ → List ℕ
words_in m a n = map (λ k. word_in m (wrapped (a + 4 * k))) (range_with_len 0 n)

-- a memory with another configuration word of a region
abbrev pub with_mcon : Memory → ℕ → ℕ → Memory
with_mcon m region w = record m { mcon = put m.mcon region w }

-- ---- what stores do at the port page

-- the byte that writes send to the console
abbrev pub console_byte : List (ℕ × ℕ) → Option ℕ
console_byte ps = last_put ps CONSOLE

infixl 10 ◌>>=◌
abbrev pub ◌>>=◌ : Option ℕ → (ℕ → Option ℕ) → Option ℕ
o >>= f = option_and_then f o

-- the word with which writes end the run, where they have all four of its bytes
unfoldable pub exit_word : Memory → List (ℕ × ℕ) → Option ℕ
exit_word m ps = do
  a ← last_put ps EXIT_WORD
  b ← last_put ps (EXIT_WORD + 1)
  c ← last_put ps (EXIT_WORD + 2)
  d ← last_put ps (EXIT_WORD + 3)
  Some (ordered_word m EXIT_WORD (a ∷ b ∷ c ∷ d ∷ []))
