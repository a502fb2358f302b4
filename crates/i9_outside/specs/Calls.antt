-- Calls that are counted from 1, of which some are set to fail.
use Rattle.std.specs.Prelude.{◌≡◌, ℕ, ◌<◌, List, [], ◌∷◌, ◌++◌, Bool, nat_eq, All}
use Rattle.std.specs.List.{list_any}
use Rattle.i9_outside.specs.declared.calls.Calls.{Calls}
use Rattle.i9_outside.specs.Counts.{one_more}

-- the numbers of the calls set to fail, how many calls were made, and how many of them failed
pub record Plan : Type 0 where
  pub failing : List ℕ
  pub made : ℕ
  pub faults : ℕ

-- what is planned and counted
abbrev pub plan_of : Calls → Plan
plan_of c = record { failing = c.failing.items; made = c.made; faults = c.faults }

-- no call was made, and none is set to fail
abbrev pub no_calls : Plan
no_calls = record { failing = []; made = 0; faults = 0 }

-- the number of the next call, which stays at 2 ^ 64 - 1 once it is there
abbrev pub next_call : Plan → ℕ
next_call p = one_more p.made

-- whether the next call is set to fail
abbrev pub fails_next : Plan → Bool
fails_next p = list_any (λ call. nat_eq call (next_call p)) p.failing

-- no call to come is set to fail: each one that is set to fail was made before
abbrev pub NoneToFail : Plan → Type 0
NoneToFail p = All (λ call. call < next_call p) p.failing

-- the call of that number is set to fail too
abbrev pub with_failing : Plan → ℕ → Plan
with_failing p call = record p { failing = p.failing ++ call ∷ [] }

-- one call more was made
abbrev pub with_call : Plan → Plan
with_call p = record p { made = next_call p }

-- one call more failed
abbrev pub with_fault : Plan → Plan
with_fault p = record p { faults = one_more p.faults }

-- one call more was made, and the same ones are set to fail
pub record CountsCall (old new : Plan) : Type 0 where
  pub made : new.made ≡ next_call old
  pub failing : new.failing ≡ old.failing
