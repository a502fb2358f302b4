-- What is planned of a unit's bytes is planned of the unit.
use Rattle.std.proofs.Common.{◌≡◌, ℕ, Bool, cond, List, Option, Some, None, Ok, Err, arith}
use Rattle.i9_model.specs.Memory.{Memory}
use Rattle.i9_model.specs.State.{Frames, Dma}
use Rattle.i9_model.specs.Hazards.{unless}
use Rattle.i9_model.specs.Dma.{Unit, is_idle, unit_hazard, unit_bytes, unit, next_unit}
use Rattle.i9_dma.specs.Units.{planned_bytes}

-- its bytes, and what it is
pub record Moves (m : Memory) (f : Frames) (d : Dma) (c : ℕ) (given : Option (List ℕ)) (bytes : List ℕ) : Type 0 where
  pub next : next_unit m f d c given ≡ Ok (Some (unit m d c given))
  pub bytes_are : bytes ≡ unit_bytes m (d.channels c) given

some_by : (b : Bool) (h : Option ℕ) (bytes more : List ℕ) (u : Unit) → cond b (Ok None) (unless h (Some bytes)) ≡ Ok (Some more)
    → (cond b (Ok None) (unless h (Some u)) ≡ Ok (Some u)) × (more ≡ bytes)
some_by b h bytes more u e = (grind arith, grind arith)

none_by : (b : Bool) (h : Option ℕ) (bytes : List ℕ) (u : Unit) → cond b (Ok None) (unless h (Some bytes)) ≡ Ok None → cond b (Ok None) (unless h (Some u)) ≡ Ok None
none_by b h bytes u e = grind arith

hazard_by : (b : Bool) (h : Option ℕ) (bytes : List ℕ) (u : Unit) (a : ℕ) → cond b (Ok None) (unless h (Some bytes)) ≡ Err a → cond b (Ok None) (unless h (Some u)) ≡ Err a
hazard_by b h bytes u a e = grind arith

pub moves_unit : (m : Memory) (f : Frames) (d : Dma) (c : ℕ) (given : Option (List ℕ)) (bytes : List ℕ) → planned_bytes m f d c given ≡ Ok (Some bytes) → Moves m f d c given bytes
unfolding planned_bytes next_unit
moves_unit m f d c given bytes e =
    let found = some_by (is_idle d c given) (unit_hazard f (d.channels c) given) (unit_bytes m (d.channels c) given) bytes (unit m d c given) e in
    record { next = found.0; bytes_are = found.1 }

pub moves_none : (m : Memory) (f : Frames) (d : Dma) (c : ℕ) (given : Option (List ℕ)) → planned_bytes m f d c given ≡ Ok None → next_unit m f d c given ≡ Ok None
unfolding planned_bytes next_unit
moves_none m f d c given e = none_by (is_idle d c given) (unit_hazard f (d.channels c) given) (unit_bytes m (d.channels c) given) (unit m d c given) e

pub meets_hazard : (m : Memory) (f : Frames) (d : Dma) (c : ℕ) (given : Option (List ℕ)) (a : ℕ) → planned_bytes m f d c given ≡ Err a → next_unit m f d c given ≡ Err a
unfolding planned_bytes next_unit
meets_hazard m f d c given a e = hazard_by (is_idle d c given) (unit_hazard f (d.channels c) given) (unit_bytes m (d.channels c) given) (unit m d c given) a e
