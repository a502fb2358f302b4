-- A copied element of a list.
use Rattle.std.proofs.Common.{◌≡◌, ℕ, List, length, get_or, Option, Bor, is_some, nat_lt, IfSome, arith}
use Rattle.std.specs.List.{slice_get}
use Rattle.std.specs.Option.{option_copied}
use Rattle.std.proofs.lemmas.Option.{slice_get_past, slice_get-get_or}
use Rattle.std.proofs.lemmas.Bool.Decides.{nat_tests}

pub option_copied-get : (bs : List ℕ) (k : ℕ) (o : Option (Bor ℕ)) → is_some o ≡ nat_lt k (length bs) → IfSome o (λ x. x.now ≡ get_or bs k x.now) → option_copied o ≡ slice_get bs k
option_copied-get bs k o e h = grind (arith, slice_get_past, nat_tests, slice_get-get_or)
