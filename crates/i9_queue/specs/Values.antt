-- Values: the bytes that a store writes of them, and the four words that a load sees.
use Rattle.std.specs.Prelude.{◌≡◌, ℕ, ◌%◌, ◌^◌, false, List, [], ◌∷◌, take, get_or}
use Rattle.i9_isa.specs.declared.inst.Operand.{Operand}
use Rattle.i9_isa.specs.declared.size.Size.{Size}
use Rattle.i9_isa.specs.declared.size.Size.TheVariants.{Byte, Half, Words}
use Rattle.i9_model.specs.Memory.{Memory, half_bytes}
use Rattle.i9_model.specs.Operands.{source_words}
use Rattle.i9_model.specs.State.{State}
use Rattle.i9_model.specs.Step.{bytes_of_words, stored_of, loaded}

-- the bytes that a store of a size writes of values: the low ones of the first for a byte and a half, groups upwards
abbrev pub bytes_of : Size → Memory → ℕ → List ℕ → List ℕ
bytes_of Byte m a vs = get_or vs 0 0 % 2 ^ 8 ∷ []
bytes_of Half m a vs = half_bytes m a (get_or vs 0 0 % 2 ^ 16)
bytes_of (Words n) m a vs = bytes_of_words m a (take n vs)

-- they are what the machine stores of an operand that has these four values
abbrev pub AreStored : Size → Memory → ℕ → List ℕ → List ℕ → Type 0
AreStored size m a vs bytes =
    (s : State) (o : Operand) → s.memory ≡ m → source_words s o 4 ≡ vs → stored_of size s o a ≡ bytes

-- the first four of some words, and zeros where there are no more
abbrev pub four_of : List ℕ → List ℕ
four_of ws = get_or ws 0 0 ∷ get_or ws 1 0 ∷ get_or ws 2 0 ∷ get_or ws 3 0 ∷ []

-- the four words that a load of a size sees: those that it reads with zeros above, and zeros
abbrev pub seen : Size → Memory → ℕ → List ℕ
seen size m a = four_of (loaded size false m a)
