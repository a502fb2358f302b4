-- Bytes of names: digits are some, and all are ASCII.
use Rattle.std.proofs.Common.{◌≡◌, ℕ, ◌<◌, ◌≤◌, true, List, [], ◌∷◌, refl, arith}
use Rattle.std.specs.List.{list_all}
use Rattle.std.specs.Char.{digit_value}
use Rattle.std.specs.Str.Parse.{AllDigits}
use Rattle.std.proofs.lemmas.Bool.Decides.{nat_tests}
use Rattle.i9_statement.specs.Values.{is_name_byte}

-- ---- digits

digit_byte : (c : ℕ) → digit_value c < 16 → is_name_byte c ≡ true
digit_byte c h = grind (arith)

pub name_bytes : (w : List ℕ) (radix : ℕ) → radix ≤ 16 → AllDigits radix w → list_all is_name_byte w ≡ true
name_bytes [] radix small h = refl
name_bytes (c ∷ w) radix small h = rw (digit_byte c (omega (arith, h.0))) (name_bytes w radix small h.1)

-- ---- ASCII

pub low_name : (n : ℕ) → is_name_byte n ≡ true → n < 128
low_name n h = grind (arith, nat_tests)
