-- Calls that are set to fail.
use Rattle.std.proofs.Common.{◌≡◌, ℕ, ◌<◌, List, [], ◌∷◌, false, nat_eq, All, arith}
use Rattle.std.specs.Prelude.{IsSome}
use Rattle.std.proofs.lemmas.Grind.{common_steps}
use Rattle.std.proofs.lemmas.List.Folds.{list_any_none}
use Rattle.std.specs.List.{list_any, AllByRecursion}
use Rattle.i9_outside.specs.declared.memory.MemFiles.{MemFiles}
use Rattle.i9_outside.specs.Calls.{NoneToFail}
use Rattle.i9_outside.specs.MemFiles.{held_file, calls_of, IsSureOf}

-- no call is the next one where each lies before it
pub none_fails : (calls : List ℕ) (next : ℕ) → All (λ call. call < next) calls → list_any (λ call. nat_eq call next) calls ≡ false
none_fails calls next before = list_any_none _ calls (λ k d h. let below = before k d h in grind (arith, common_steps))

-- where no call is set to fail and each of these files is held, each is sure to be fetched
pub all_sure : (m : MemFiles) (names : List (List ℕ)) → NoneToFail (calls_of m) → AllByRecursion (λ name. IsSome (held_file m name)) names → AllByRecursion (IsSureOf m) names
all_sure m [] none held = tt
all_sure m (name ∷ names) none held = (record { is_held = held.0; none_fails = none }, all_sure m names none held.1)
