-- What files in memory hold, and which of their calls fail.
use Rattle.std.specs.Prelude.{◌≡◌, ℕ, List, Option, option_map, IsSome}
use Rattle.std.specs.BTreeMap.{get_by_text}
use Rattle.i9_outside.specs.declared.memory.MemFiles.{MemFiles}
use Rattle.i9_outside.specs.Calls.{Plan, plan_of, NoneToFail}

-- the bytes held under a name
abbrev pub held_file : MemFiles → List ℕ → Option (List ℕ)
held_file m name = option_map (λ v. v.items) (get_by_text m.files name)

-- its calls of `fetch`
abbrev pub calls_of : MemFiles → Plan
calls_of m = plan_of m.calls

-- how many of them failed
abbrev pub fault_count : MemFiles → ℕ
fault_count m = (calls_of m).faults

-- how many were made
abbrev pub fetch_count : MemFiles → ℕ
fetch_count m = (calls_of m).made

-- each name has the file that it had
abbrev pub SameFiles : MemFiles → MemFiles → Type 0
SameFiles old new = (name : List ℕ) → held_file new name ≡ held_file old name

-- no fetch of the name can fail: it is held, and no call to come is set to fail
pub record IsSureOf (m : MemFiles) (name : List ℕ) : Type 0 where
  pub is_held : IsSome (held_file m name)
  pub none_fails : NoneToFail (calls_of m)
