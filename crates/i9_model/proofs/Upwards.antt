-- Values at places from one address upwards: which value a place gets.
use Rattle.std.proofs.Common.{◌≡◌, ℕ, ◌+◌, ◌-◌, ◌%◌, ◌^◌, ◌<◌, ◌≤◌, Bool, cond, eqb, List, [], ◌∷◌, length, Option, Some, None, refl, ap, ◌∙◌, add-one, arith}
use Rattle.std.specs.List.{slice_get}
use Rattle.std.proofs.lemmas.Option.{slice_get_past}
use Rattle.std.proofs.lemmas.Bool.Decides.{nat_tests}
use Rattle.i9_model.specs.Writes.{wrapped, or_earlier, last_put, upwards}

-- how far a place lies above an address
abbrev pub above : ℕ → ℕ → ℕ
above a x = (x + (2 ^ 32 - wrapped a)) % 2 ^ 32

pub or_none : (o : Option ℕ) → or_earlier o None ≡ o
or_none o = grind arith

pub before_first : (a : ℕ) → above (a + 1) (wrapped a) ≡ 2 ^ 32 - 1
before_first a = omega arith

pub get_later : (b : ℕ) (bs : List ℕ) (i k : ℕ) → i ≡ k + 1 → slice_get (b ∷ bs) i ≡ slice_get bs k
get_later b bs i k e = rw (e, add-one) refl

-- the value of a place, by whether it is the first one
value_at : (a b : ℕ) (bs : List ℕ) (x : ℕ) (here : Bool) (later : Option ℕ) → x < 2 ^ 32 → length bs < 2 ^ 32 → eqb x (wrapped a) ≡ here
    → later ≡ slice_get bs (above (a + 1) x) → or_earlier later (cond here (Some b) None) ≡ slice_get (b ∷ bs) (above a x)
value_at a b bs x here later k few t e = grind (arith, nat_tests, slice_get_past, before_first, or_none, get_later)

-- the value of a place is the one that lies as far behind the first as the place lies above the address
pub last_put-upwards : (a : ℕ) (bs : List ℕ) (x : ℕ) → x < 2 ^ 32 → length bs ≤ 2 ^ 32 → last_put (upwards a bs) x ≡ slice_get bs ((x + (2 ^ 32 - a % 2 ^ 32)) % 2 ^ 32)
unfolding last_put
last_put-upwards a [] x k few = refl
last_put-upwards a (b ∷ bs) x k few = grind (arith, value_at, last_put-upwards (a + 1) bs x k (omega arith))

pub last_put-from : (a : ℕ) (bs : List ℕ) (x : ℕ) → a < 2 ^ 32 → x < 2 ^ 32 → length bs ≤ 2 ^ 32 → last_put (upwards a bs) x ≡ slice_get bs ((x + (2 ^ 32 - a)) % 2 ^ 32)
last_put-from a bs x h k few = grind (arith, last_put-upwards)

-- the address counts modulo 2^32
pub upwards-wrapped : (a b : ℕ) (vs : List ℕ) → wrapped a ≡ wrapped b → upwards a vs ≡ upwards b vs
upwards-wrapped a b [] e = refl
upwards-wrapped a b (v ∷ vs) e =
    let next : wrapped (a + 1) ≡ wrapped (b + 1) = omega arith in
    ap (λ (x : ℕ). (x, v) ∷ upwards (a + 1) vs) e ∙ ap (λ (ps : List (ℕ × ℕ)). (wrapped b, v) ∷ ps) (upwards-wrapped (a + 1) (b + 1) vs next)

pub one_write : (a v : ℕ) → a < 2 ^ 32 → upwards a (v ∷ []) ≡ (a, v) ∷ []
one_write a v h = let same : wrapped a ≡ a = omega arith in ap (λ (x : ℕ). (x, v) ∷ []) same
