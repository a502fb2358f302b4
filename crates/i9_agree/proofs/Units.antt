-- A unit that meets no hazard sees hard bytes alone, and writes beside live frames.
use Rattle.std.proofs.Common.{◌≡◌, ℕ, zero, suc, ◌+◌, ◌<◌, false, List, [], map, Option, Some, None, Ok, refl, arith}
use Rattle.i9_model.specs.declared.event.Event.{Event}
use Rattle.i9_model.specs.declared.event.Event.TheVariants as events
use Rattle.i9_model.specs.Writes.{wrapped}
use Rattle.i9_model.specs.Memory.{Memory}
use Rattle.i9_model.specs.State.{State, Frames, Dma, Channel}
use Rattle.i9_model.specs.Frames.{places}
use Rattle.i9_model.specs.Hazards.{or_else, read_hazard, write_hazard, port_hazard, writes_hazard}
use Rattle.i9_model.specs.Dma.{Unit, unit_length, is_idle, unit_hazard, unit_bytes, unit, next_unit}
use Rattle.i9_model.specs.Before.{Received, received_in}
use Rattle.i9_model.specs.Alike.{is_hard, AgreeWhere, with_other, with_memory}
use Rattle.i9_model.proofs.CallLaws.{first_none, second_none}
use Rattle.i9_model.proofs.FitUnits.{busy_fit}
use Rattle.i9_model.proofs.Runs.{writes_hazard-upwards}
use Rattle.i9_model.proofs.Readings.{byte_same}
use Rattle.i9_agree.proofs.AlikeFetches.{unless_same}
use Rattle.i9_model.proofs.Lengths.{bytes_long}

-- ---- the same where hard bytes are the same

places_same : (f g : ℕ → ℕ) (a n : ℕ) → ((k : ℕ) → k < n → f (wrapped (a + k)) ≡ g (wrapped (a + k))) → map f (places a n) ≡ map g (places a n)
places_same f g a zero same = refl
places_same f g a (suc n) same =
    let none : a + 0 ≡ a = omega arith in
    let later = places_same f g (a + 1) n (λ k h. let next : a + suc k ≡ a + 1 + k = omega arith in rw next at (same (suc k) (omega arith))) in
    cc (rw none at (same 0 (omega arith)), later)

pub bytes_same : (f : Frames) (m : Memory) (bytes : ℕ → ℕ) (c : Channel) (given : Option (List ℕ)) → AgreeWhere (is_hard f) m bytes → unit_hazard f c given ≡ None → unit_bytes (with_other m bytes) c given ≡ unit_bytes m c given
unfolding unit_hazard unit_bytes
bytes_same f m bytes c None same none =
    let read = read_hazard f c.source (unit_length c) in
    let hard = first_none read (or_else (write_hazard f c.target (unit_length c)) (port_hazard c.target (unit_length c))) none in
    places_same bytes m.bytes c.source (unit_length c) (λ k h. byte_same f m bytes c.source (unit_length c) k same hard h)
bytes_same f m bytes c (Some given) same none = refl

-- what an event does goes by hard bytes alone
pub received_same : (s : State) (bytes : ℕ → ℕ) (e : Event) → AgreeWhere (is_hard s.frames) s.memory bytes → received_in (with_memory s bytes) e ≡ received_in s e
unfolding next_unit received_in
received_same s bytes e same = grind (arith, unless_same, bytes_same)

-- ---- beside live frames

-- a unit that is moved is not idle and meets no hazard
pub unit_moved : (m : Memory) (f : Frames) (d : Dma) (c : ℕ) (given : Option (List ℕ)) (u : Unit) → next_unit m f d c given ≡ Ok (Some u)
    → (is_idle d c given ≡ false) × (unit_hazard f (d.channels c) given ≡ None) × (unit m d c given ≡ u)
unfolding next_unit
unit_moved m f d c given u is = grind arith

pub no_writes : (f : Frames) → writes_hazard f [] ≡ None
unfolding writes_hazard
no_writes f = refl

-- what an event does writes beside live frames
pub received_free : (s : State) (e : Event) (u : Received) → received_in s e ≡ Ok u → writes_hazard s.frames u.writes ≡ None
unfolding received_in unit_hazard
received_free s e u is =
    grind (arith, no_writes, unit_moved, bytes_long, busy_fit, first_none, second_none, writes_hazard-upwards)
