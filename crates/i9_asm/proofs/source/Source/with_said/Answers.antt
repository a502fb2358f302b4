use Rattle.std.proofs.Common.{◌≡◌, ◌+◌, ◌%◌, None, sym, ap, subst, ◌∙◌, arith}
use Rattle.i9_statement.specs.Noted.{least}
use Rattle.i9_statement.specs.Known.{known_in}
use Rattle.i9_asm.specs.Said.{item_as}
use Rattle.i9_asm.specs.Places.{Place, location_count, next_location, size_of, moved_to}
use Rattle.i9_asm.specs.Source.{item_fault, room_fault, rest_fault}
use Rattle.i9_asm.specs.Reading.{source_at, GrowsBy}
use Rattle.i9_asm.proofs.TakenLines.{least_left, least_right, grown_room, grows}
use Rattle.i9_asm.proofs.source.Source.with_said.Goals as goal

pub returns-in-Some : goal.returns-in-Some
returns-in-Some c = grind (arith, grown_room)

pub returns : goal.returns
returns c =
    let names = known_in c.args.names in
    let s = source_at (known_in c.args.behind) c.args.self in
    let item = item_as c.args.said.now in
    let g = c.in-Ok.grown in
    let by = subst (λ (p : Place). GrowsBy names (source_at p.known c.args.self) item g) c.place-place.ensures c.in-Ok.ensures.grows in
    let rest = c.least-rest.ensures ∙ ap (λ f. least f c.room_fault.result) by.fault ∙ ap (least (item_fault names s.place item)) (c.room_fault.ensures ∙ grown_room names s item g by) in
    let none : least c.args.front (rest_fault names s item) ≡ None = sym (c.least.ensures ∙ ap (least c.args.front) rest) ∙ c.in_default-least.is in
    let later : rest_fault names s item ≡ None = least_right c.args.front (rest_fault names s item) (least_left c.args.front (rest_fault names s item) none) none in
    let sound = by.fault ∙ least_left (item_fault names s.place item) (room_fault s (size_of s.place item)) later in
    let moved = c.moved_to.ensures ∙ ap (λ (p : Place). moved_to p item) c.place-place.ensures in
    let location = c.next_location-location.ensures ∙ ap (λ (p : Place). next_location c.moved_to.result (p.location + g.size) % location_count) c.place-place.ensures
    ∙ ap (λ m. next_location m (s.place.location + g.size) % location_count) moved ∙ ap (λ n. next_location (moved_to s.place item) (s.place.location + n) % location_count) by.size in
    (none, grows names s item g c.counted.result c.next_location-location.result by sound location c.counted.ensures)
