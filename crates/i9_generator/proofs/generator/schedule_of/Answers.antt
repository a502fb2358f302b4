use Rattle.std.proofs.Common.{◌≡◌, ◌+◌, arith}
use Rattle.i9_generator.specs.Generator.{drawn}
use Rattle.i9_generator.proofs.Drawing.{drawn-next, schedule_grows, schedule_ends}
use Rattle.i9_generator.proofs.generator.schedule_of.Goals as goal

pub loop-place-preserved : goal.loop-place-preserved
loop-place-preserved c =
    let number = c.args.number in
    let place = c.loop-place.place in
    let next : 3 + place + 1 ≡ 3 + (place + 1) = omega arith in
    let last : c.draw-last-in-loop-place.result ≡ drawn number (3 + (place + 1)) = cc (drawn-next number (3 + place)) in
    (last, schedule_grows number place _ _ _ c.loop-place.invariant.1 last c.in_ok-add_pin.ensures)

pub returns : goal.returns
returns c = schedule_ends c.args.number c.loop-place.place _ c.loop-place.invariant.1 (omega (arith, c.loop-place-test.false, c.loop-place.auto.place-end))
