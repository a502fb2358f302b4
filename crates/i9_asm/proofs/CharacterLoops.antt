-- One turn of a loop over the characters of a string.
use Rattle.std.proofs.Common.{◌≡◌, ℕ, ◌+◌, true, false, eqb, List, [], ◌∷◌, ◌++◌, length, Option, Some, None, arith}
use Rattle.std.specs.Option.{option_map}
use Rattle.i9_text.specs.Text.{is_in_word}
use Rattle.i9_statement.specs.Cut.{from}
use Rattle.i9_asm.specs.Strings.{characters}

pub quoted-end : (s w : List ℕ) → w ≡ from is_in_word s → eqb (length w) 0 ≡ true → characters (34 ∷ s) ≡ Some []
unfolding characters
quoted-end s w is h = grind arith

pub quoted-more : (s w : List ℕ) → w ≡ from is_in_word s → eqb (length w) 0 ≡ false → characters (34 ∷ s) ≡ None
unfolding characters
quoted-more s w is h = grind arith

-- how many characters there are, with so many before
abbrev pub counted : ℕ → Option (List ℕ) → Option ℕ
counted k o = option_map (λ cs. k + length cs) o

-- the characters behind those before
abbrev pub behind : List ℕ → Option (List ℕ) → Option (List ℕ)
behind front o = option_map (λ cs. front ++ cs) o
