-- Writes: places with their values laid over a function, where the last value of a place wins. They serve registers,
-- bytes of memory and the loading of an image alike.
use Rattle.std.specs.Prelude.{ℕ, ◌+◌, ◌-◌, ◌*◌, ◌/◌, ◌%◌, ◌==◌, if◌then◌else◌, List, [], ◌∷◌, Option, Some, None}

-- how many addresses there are, 2^32
abbrev pub address_count : ℕ
address_count = 4294967296

-- addresses run on from the last to 0
abbrev pub wrapped : ℕ → ℕ
wrapped a = a % address_count

-- values in a row from a number on, each at the place of its number
abbrev pub pairs_at : (ℕ → ℕ) → ℕ → List ℕ → List (ℕ × ℕ)
pairs_at place n [] = []
pairs_at place n (v ∷ vs) = (place n, v) ∷ pairs_at place (n + 1) vs

-- values in a row from an address on
abbrev pub upwards : ℕ → List ℕ → List (ℕ × ℕ)
upwards a vs = pairs_at wrapped a vs

-- the places of writes
abbrev pub places_of : List (ℕ × ℕ) → List ℕ
places_of [] = []
places_of (p ∷ ps) = p.0 ∷ places_of ps

-- addresses of frames are multiples of 16
abbrev pub rounded_down : ℕ → ℕ
rounded_down a = a - a % 16

abbrev pub rounded_up : ℕ → ℕ
rounded_up a = (a + 15) / 16 * 16

-- the low two bits of every new instruction address are cleared
abbrev pub aligned : ℕ → ℕ
aligned a = a - a % 4

-- the function with another value at one place
abbrev pub put : (ℕ → ℕ) → ℕ → ℕ → ℕ → ℕ
put f a v x = if x == a then v else f x

-- the function with values laid over it
unfoldable pub written : (ℕ → ℕ) → List (ℕ × ℕ) → ℕ → ℕ
written f [] = f
written f (p ∷ ps) = written (put f p.0 p.1) ps

abbrev pub or_earlier : Option ℕ → Option ℕ → Option ℕ
or_earlier (Some v) earlier = Some v
or_earlier None earlier = earlier

-- the last value of a place
unfoldable pub last_put : List (ℕ × ℕ) → ℕ → Option ℕ
last_put [] x = None
last_put (p ∷ ps) x = or_earlier (last_put ps x) (if x == p.0 then Some p.1 else None)
