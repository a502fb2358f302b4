-- An event of a plan is in its range, and what an event does is one of a few things.
use Rattle.std.proofs.Common.{◌≡◌, ℕ, zero, suc, ◌<◌, List, [], ◌∷◌, length, Option, Some, None, Result, Ok, Err, refl, subst, arith}
use Rattle.std.specs.List.{slice_get, AllByRecursion}
use Rattle.i9_model.specs.declared.event.Event.{Event}
use Rattle.i9_model.specs.declared.event.Event.TheVariants.{Pin, Low, High, Nmi, Dma, Feed, Show}
use Rattle.i9_model.specs.declared.event.Timed.{Timed}
use Rattle.i9_model.specs.Events.{IsInRange}
use Rattle.i9_model.specs.ScheduleText.{IsTimedInRange, IsPlan}
use Rattle.i9_model.specs.State.{State}
use Rattle.i9_model.specs.Interrupts.{posted, posted_nmi, lowered, raised}
use Rattle.i9_model.specs.Dma.{Unit, unit, next_unit}
use Rattle.i9_model.specs.Before.{Received, posting, moving_unit, received_by, received_in}
use Rattle.i9_model.specs.Run.{Given, Record, reached_after, event_after, state_after}
use Rattle.i9_past.proofs.Left.{standing_at_place}
use Rattle.i9_agree.proofs.Units.{unit_moved}

-- ---- ranges

-- an event at a place of a plan has what all of them have, and the place is below the length
pub planned : (P : Timed → Type 0) (plan : List Timed) (place : ℕ) (t : Timed) → AllByRecursion P plan
    → slice_get plan place ≡ Some t
    → P t × (place < length plan)
planned P [] place t all is = absurd cc
planned P (x ∷ plan) zero t all is = let same : x ≡ t = cc in (subst P same all.0, omega arith)
planned P (x ∷ plan) (suc place) t all is = let p = planned P plan place t all.1 is in (p.0, omega (arith, p.1))

-- so has one that stands
pub event_planned : (P : Timed → Type 0) (g : Given) (rs : List Record) (e : Event) → AllByRecursion P g.plan
    → event_after g rs ≡ Some e
    → (t : Timed) × P t × (t.event ≡ e)
event_planned P g rs e all is =
    let place = length (reached_after rs) in
    let there = standing_at_place g.plan place (state_after g rs).count e is in
    (there.0, (planned P g.plan place there.0 all there.1).0, there.2)

-- and it is in its range
pub event_range : (g : Given) (rs : List Record) (e : Event) → IsPlan g.plan → event_after g rs ≡ Some e → IsInRange e
event_range g rs e plan is =
    let there = event_planned IsTimedInRange g rs e plan.each is in subst IsInRange there.2 there.1.event

-- ---- cases

-- of an event on a channel, that nothing is moved, or that a unit is
abbrev pub IsByUnit : (Received → Type 0) → State → ℕ → Option (List ℕ) → Type 0
IsByUnit P s c given = P (posting s s.interrupts) × P (moving_unit s c (Some (unit s.memory s.dma c given)))

-- a property of all that an event may do
abbrev pub IsByEvent : (Received → Type 0) → State → Event → Type 0
IsByEvent P s (Pin x) = P (posting s (posted s.interrupts x))
IsByEvent P s (Low x) = P (posting s (lowered s.interrupts x))
IsByEvent P s (High x) = P (posting s (raised s.interrupts x))
IsByEvent P s Nmi = P (posting s (posted_nmi s.interrupts))
IsByEvent P s (Dma c) = IsByUnit P s c None
IsByEvent P s (Feed c bytes) = IsByUnit P s c (Some bytes.items)
IsByEvent P s (Show a n) = P (posting s s.interrupts)

same_received : (P : Received → Type 0) (r u : Received) → P r → ◌≡◌ {A = Result Received ℕ} (Ok r) (Ok u) → P u
same_received P r u h is = let same : r ≡ u = cc in subst P same h

received_by_unit : (P : Received → Type 0) (s : State) (c : ℕ) (given : Option (List ℕ)) (o : Result (Option Unit) ℕ) (u : Received)
    → IsByUnit P s c given → next_unit s.memory s.frames s.dma c given ≡ o → received_by s c o ≡ Ok u → P u
received_by_unit P s c given (Ok None) u h next is = same_received P (moving_unit s c None) u h.0 is
received_by_unit P s c given (Ok (Some v)) u h next is =
    let moved = unit_moved s.memory s.frames s.dma c given v next in
    let here = subst (λ (w : Unit). P (moving_unit s c (Some w))) moved.2 h.1 in
    same_received P (moving_unit s c (Some v)) u here is
received_by_unit P s c given (Err a) u h next is = absurd cc

-- what an event does has the property
pub received_as : (P : Received → Type 0) (s : State) (e : Event) (u : Received) → IsByEvent P s e → received_in s e ≡ Ok u → P u
unfolding received_in
received_as P s (Dma c) u h is = received_by_unit P s c None (next_unit s.memory s.frames s.dma c None) u h refl is
received_as P s (Feed c bytes) u h is =
    let given = Some bytes.items in
    received_by_unit P s c given (next_unit s.memory s.frames s.dma c given) u h refl is
received_as P s _ u h is = same_received P _ u h is
