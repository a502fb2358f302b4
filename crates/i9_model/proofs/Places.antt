-- Addresses in a row: what one more of them adds, and how far above the first the others lie.
use Rattle.std.proofs.Common.{◌≡◌, ℕ, zero, suc, ◌+◌, ◌-◌, ◌%◌, ◌^◌, ◌<◌, ◌≤◌, false, nat_lt, [], ◌∷◌, ◌++◌, refl, sym, ◌∙◌, add-one, arith}
use Rattle.std.specs.Prelude.{◌==◌, ◌||◌}
use Rattle.std.proofs.lemmas.List.Folds.{list_any-append}
use Rattle.std.proofs.lemmas.List.FromFn.{map-range_with_len_more}
use Rattle.std.proofs.lemmas.Bool.Decides.{nat_tests}
use Rattle.i9_model.specs.Writes.{wrapped}
use Rattle.i9_model.specs.Frames.{places, in_bytes}

pub places-more : (a n : ℕ) → places a (n + 1) ≡ places a n ++ wrapped (a + n) ∷ []
places-more a n = map-range_with_len_more wrapped a n (a + n) refl

pub in_bytes-none : (a x : ℕ) → in_bytes a 0 x ≡ false
unfolding in_bytes
in_bytes-none a x = refl

-- one more byte
pub in_bytes-more : (a n x : ℕ) → in_bytes a (n + 1) x ≡ (in_bytes a n x || x == wrapped (a + n))
unfolding in_bytes
in_bytes-more a n x = grind (arith, places-more, list_any-append)

above-test : (a n x : ℕ) → a < 2 ^ 32 → x < 2 ^ 32 → n < 2 ^ 32 → (x == wrapped (a + n)) ≡ ((x + (2 ^ 32 - a)) % 2 ^ 32 == n)
above-test a n x h k few = grind arith

lt-zero : (d : ℕ) → nat_lt d 0 ≡ false
lt-zero d = grind (arith, nat_tests)

lt-suc : (d n : ℕ) → nat_lt d (n + 1) ≡ (nat_lt d n || d == n)
lt-suc d n = grind (arith, nat_tests)

-- a byte is one of n from an address on if it lies less than n above that address
pub in_bytes-above : (a n x : ℕ) → a < 2 ^ 32 → x < 2 ^ 32 → n ≤ 2 ^ 32 → in_bytes a n x ≡ nat_lt ((x + (2 ^ 32 - a)) % 2 ^ 32) n
in_bytes-above a zero x h k few = in_bytes-none a x ∙ sym (lt-zero ((x + (2 ^ 32 - a)) % 2 ^ 32))
in_bytes-above a (suc n) x h k few =
    let d = (x + (2 ^ 32 - a)) % 2 ^ 32 in
    cc (
      add-one n,
      in_bytes-more a n x,
      in_bytes-above a n x h k (omega arith),
      above-test a n x h k (omega arith),
      lt-suc d n,
    )
