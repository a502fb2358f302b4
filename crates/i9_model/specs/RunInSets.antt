-- A run of a machine that keeps its frames in sets: all that it reads, it reads through the held frames.
use Rattle.std.specs.Prelude.{◌≡◌, List, [], ◌∷◌}
use Rattle.i9_model.specs.Run.{Given, Finish, Record, Does, Ends, next}
use Rattle.i9_model.specs.HeldFrames.{overlaid, cache_after}

-- a record of such a machine: memory after it is what is held then, laid over what is behind
abbrev pub in_sets : Given → List Record → Record → Record
in_sets g rs r = record r { after = record r.after { memory = overlaid (cache_after g (r ∷ rs)) } }

-- these are the first records of such a machine: each is what comes next, done in sets
abbrev pub IsPastInSets : Given → List Record → Type 0
IsPastInSets g [] = Unit {0}
IsPastInSets g (q ∷ rs) = IsPastInSets g rs × (r : Record) × (next g rs ≡ Does r) × (q ≡ in_sets g rs r)

-- these are the records of its run, and this is its end
pub record IsRunInSets (g : Given) (rs : List Record) (f : Finish) : Type 0 where
  pub past : IsPastInSets g rs
  pub ends : next g rs ≡ Ends f
