-- A run begins far below the largest turn.
use Rattle.std.proofs.Common.{◌≡◌, ℕ, ◌+◌, ◌*◌, ◌^◌, ◌<◌, ◌≤◌, List, [], ◌∷◌, length, refl, arith}
use Rattle.i9_model.specs.declared.event.Event.{Event}
use Rattle.i9_model.specs.declared.event.Timed.{Timed}
use Rattle.i9_model.specs.declared.layout.TheConstants.{MAX_LENGTH}
use Rattle.i9_model.specs.Left.{event_work, plan_work, asked, left_in}
use Rattle.i9_model.specs.Run.{Given}
use Rattle.i9_model.specs.ScheduleText.{IsPlan, most_events}
use Rattle.i9_model.specs.State.{boot, started}
use Rattle.i9_past.proofs.Ends.{boot_count}
use Rattle.i9_machine.specs.StandsFor.{left_after}

-- an event is little work
event_few : (e : Event) → event_work e ≤ 2
event_few e = grind arith

plan_few : (ts : List Timed) → plan_work ts ≤ 2 * length ts
plan_few [] = omega arith
plan_few (t ∷ ts) = omega (arith, event_few t.event, plan_few ts)

-- nothing is asked for at the start, at the highest priority
none_asked : (image : List (ℕ × ℕ)) → asked (boot image) ≡ 0
unfolding boot started
none_asked image = refl

pub first_far : (g : Given) → IsPlan g.plan → g.length ≤ MAX_LENGTH → 1 + 2 ^ 8 * left_after g [] < 2 ^ 62
unfolding left_in
first_far g plan short =
    let work : plan_work g.plan ≤ 2 * length g.plan = plan_few g.plan in
    let few : length g.plan ≤ most_events = plan.few in
    let none : asked (boot g.image) ≡ 0 = none_asked g.image in
    let count : (boot g.image).count ≡ 0 = boot_count g.image in
    omega (arith, work, few, none, count, short)
