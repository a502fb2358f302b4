-- Turns stay small.
use Rattle.std.proofs.Common.{◌≡◌, ℕ, ◌+◌, ◌*◌, ◌^◌, ◌<◌, ◌≤◌, max, List, [], ◌∷◌, arith}
use Rattle.std.specs.List.{AllByRecursion}
use Rattle.i9_model.specs.declared.need.Need.{Need}
use Rattle.i9_model.specs.declared.need.TimedNeed.{TimedNeed}
use Rattle.i9_model.specs.Step.{Action}
use Rattle.i9_model.specs.Turns.{StandsFor, end_turn, waiting_until}
use Rattle.i9_turns.proofs.TurnFences.{end-least}
use Rattle.i9_turns.proofs.TurnStands.{stands-all_done, all_done-stands}
use Rattle.i9_issue.specs.Room.{IsEarly}
use Rattle.i9_pipeline.specs.Flow.{Flow, moved_to}
use Rattle.i9_pipeline.specs.Issuing.{most_turns, IsIssued}
use Rattle.i9_pipeline.specs.Paced.{IsPaced}

-- at the start
pub paced_first : (f : Flow) (left : ℕ) → StandsFor f.board [] → f.turn ≡ 1 → f.floor ≡ 0
    → 1 + 2 ^ 8 * left < 2 ^ 62 → IsPaced f left
paced_first f left board turn floor far = record {
  bound = 1;
  far = far;
  done = all_done-stands f.board [] 1 board (record { in_order = omega arith; done = tt });
  now = omega (arith, turn);
  fence = omega (arith, floor);
}

-- where the turn moves, and where a fence is set, no further than to the end of what is open
pub paced_moves : (f : Flow) (rs : List TimedNeed) (t floor left : ℕ) → StandsFor f.board rs
    → t ≤ max f.turn (end_turn rs) → floor ≤ max f.floor (end_turn rs) → IsPaced f left
    → IsPaced (record (moved_to t f) { floor = floor }) left
paced_moves f rs t floor left stands now fence p =
    let ended : end_turn rs ≤ p.bound = end-least rs p.bound (stands-all_done f.board rs p.bound stands p.done) in
    let turn_was : f.turn ≤ p.bound = p.now in
    let floor_was : f.floor ≤ p.bound = p.fence in
    record {
      bound = p.bound;
      far = p.far;
      done = p.done;
      now = omega (arith, now, turn_was, ended);
      fence = omega (arith, fence, floor_was, ended);
    }

-- where a record issues, which comes no further than it may
pub paced_issues : (before after : Flow) (need : Need) (a : Action) (left now : ℕ) → IsIssued before need a after
    → need.not_before ≡ 0 → now < left → IsPaced before left → IsPaced after now
paced_issues before after need a left now i none less p =
    let cost : need.cost ≤ most_turns = i.cost in
    let far : p.bound + 2 ^ 8 * left < 2 ^ 62 = p.far in
    let turn : after.turn ≡ before.turn = λ j. (i.keeps j).turn in
    let floor : after.floor ≡ before.floor = λ j. (i.keeps j).floor in
    let turn_was : before.turn ≤ p.bound = p.now in
    let floor_was : before.floor ≤ p.bound = p.fence in
    record {
      bound = p.bound + need.cost;
      far = omega (arith, cost, far, less);
      done = i.bound p.bound p.done (omega (arith, none, floor_was));
      now = omega (arith, turn, turn_was);
      fence = omega (arith, floor, floor_was);
    }

pub paced_turn : (f : Flow) (left : ℕ) → IsPaced f left → f.turn < 2 ^ 62
paced_turn f left p =
    let far : p.bound + 2 ^ 8 * left < 2 ^ 62 = p.far in
    let turn : f.turn ≤ p.bound = p.now in
    omega (arith, far, turn)

-- a need behind the last fence is early enough for the scoreboard
pub paced_early : (f : Flow) (left : ℕ) (need : Need) → IsPaced f left → need.not_before ≡ 0 → need.cost ≤ most_turns
    → IsEarly f.board (waiting_until f.floor need)
paced_early f left need p none cost =
    let far : p.bound + 2 ^ 8 * left < 2 ^ 62 = p.far in
    let in_order : f.board.last ≤ p.bound = p.done.in_order in
    let floor : f.floor ≤ p.bound = p.fence in
    record {
      last = omega (arith, far, in_order);
      done = below f.board.records p.done.done;
      waited = omega (arith, far, floor, none);
      cost = omega (arith, cost);
    }
  where
    below : (rs : List TimedNeed) → AllByRecursion (λ r. r.done ≤ p.bound) rs → AllByRecursion (λ r. r.done < 2 ^ 62) rs
    below [] h = tt
    below (r ∷ rs) h =
        let one : r.done ≤ p.bound = h.0 in
        let far : p.bound + 2 ^ 8 * left < 2 ^ 62 = p.far in
        (omega (arith, one, far), below rs h.1)
