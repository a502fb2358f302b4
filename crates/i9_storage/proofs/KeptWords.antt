-- Words that are kept by their address, and the bytes of a run beside them.
use Rattle.std.proofs.Common.{◌≡◌, ℕ, ◌+◌, ◌-◌, ◌*◌, ◌/◌, ◌%◌, ◌^◌, ◌<◌, ◌≤◌, Bool, true, false, List, get_or, replicate, refl, sym, ap, ◌∙◌, ◌⊎◌, subst, arith}
use Rattle.std.specs.Prelude.{nat_lt}
use Rattle.std.proofs.lemmas.Bool.{ltb-true}
use Rattle.std.proofs.lemmas.Bool.Decides.{nat_tests}
use Rattle.std.proofs.lemmas.List.{get_or-replicate}
use Rattle.i9_model.specs.Writes.{wrapped}
use Rattle.i9_model.specs.Frames.{in_bytes}
use Rattle.i9_model.proofs.Places.{in_bytes-above}
use Rattle.i9_storage.specs.Places.{IsNamed, AreWithin, IsBeside}

-- a byte so far above the run's address is beside it
far : (a n x : ℕ) → a < 2 ^ 32 → x < 2 ^ 32 → n ≤ 2 ^ 32 → n ≤ (x + (2 ^ 32 - a)) % 2 ^ 32 → in_bytes a n x ≡ false
far a n x low high few h = in_bytes-above a n x low high few ∙ grind (arith, nat_tests, h)

-- a run below or above all words that are kept
pub beside_all : (addresses : List ℕ) (low end a n from to x : ℕ) → AreWithin addresses low end → IsNamed addresses x → a < 2 ^ 32 → n < 2 ^ 32
    → from ≡ a → to ≡ a + n → (to ≤ low) ⊎ ((end ≤ from) × (to ≤ 2 ^ 32)) → IsBeside a n x
beside_all addresses low end a n from to x within named is few e f h k h1 = grind (arith, in_bytes-above, nat_tests)

-- where no word is there, none is kept
pub none_named : (addresses : List ℕ) (a : ℕ) → addresses ≡ replicate 256 4294967296 → IsNamed addresses a → ⊥
none_named addresses a none named =
    let here : get_or (replicate 256 4294967296) (a / 4 % 256) 0 ≡ a = ap (λ (ns : List ℕ). get_or ns (a / 4 % 256) 0) (sym none) ∙ named.1 in
    let there = get_or-replicate {A = ℕ} 256 (a / 4 % 256) 4294967296 0 (omega arith) in
    omega (arith, here, there, named.0)

-- where none of the words of a run is kept, the run is beside those that are
pub beside_words : (addresses : List ℕ) (low end a n x : ℕ) → AreWithin addresses low end → IsNamed addresses x → a < 2 ^ 32 → n ≤ 2 ^ 32
    → ((j : ℕ) → j < (a % 4 + n + 3) / 4 → IsNamed addresses (wrapped (a - a % 4 + 4 * j)) → ⊥) → IsBeside a n x
beside_words addresses low end a n x within named is few gone k h =
    in_bytes-above a n (wrapped (x + k)) is (omega arith) few ∙ by (nat_lt d n) refl
  where
    d : ℕ
    d = (wrapped (x + k) + (2 ^ 32 - a)) % 2 ^ 32

    -- the word of the byte
    its_word : d < n → wrapped (a - a % 4 + 4 * ((a % 4 + d) / 4)) ≡ x
    its_word l = let whole = (within x named).0 in omega (arith, whole, named.0)

    by : (b : Bool) → nat_lt d n ≡ b → b ≡ false
    by false e = refl
    by true e =
        let l : d < n = ltb-true d n e in
        absurd (gone ((a % 4 + d) / 4) (omega (arith, l)) (subst (IsNamed addresses) (sym (its_word l)) named))
